use Rattle.std.proofs.Common.{◌≡◌, ap, map, refl}
use Rattle.mover_rounds.specs.Made.{copier_of}
use Rattle.cc_program.proofs.Inserted.{put_in}
use Rattle.cc_program.proofs.lives.left_of.Goals as goal

pub returns : goal.returns
returns g c =
    let view = copier_of g.K.Copier.copies g.K.Copier.faults in
    let put = put_in view c.service.inside.copiers.items c.insert.new.self.items c.args.at c.front.inside.copier c.in-Ok.ensures.items in
    rw (← c.team.view_is) (rw (← c.front.view_is) (rw (← c.service.view_is) (rw put refl)))
