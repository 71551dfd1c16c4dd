use Rattle.std.proofs.Common.{◌∙◌, ap, Err, length}
use Rattle.rest_stream.proofs.Lengths.{too_short}
use Rattle.rest_stream.proofs.heads.head_state.Goals as goal

pub returns-in-Err : goal.returns-in-Err
returns-in-Err c = c.in-Err.ensures.invalid
    (λ e. too_short c.args.buf.now (length c.args.headers.now) c.requires.short c.requires.room (c.parse_request.ensures.too_many (c.in-Err.is ∙ ap Err e)))
