use Rattle.std.proofs.Common.{◌∙◌, ap}
use Rattle.std.specs.Map.{lookup}
use Rattle.indexmap.proofs.CallerLemmas.{insert_entry-new}
use Rattle.cluster_json.specs.Places.{Name, same_name}
use Rattle.cluster_json.proofs.PlaceLemmas.{lookup-push, none_from}
use Rattle.cluster_json.proofs.places.note.Goals as goal

pub returns-in_ok-insert : goal.returns-in_ok-insert
returns-in_ok-insert c =
    let name : Name = (c.args.topic, c.args.number) in
    let grown = c.in_ok-insert.ensures.entries ∙ insert_entry-new same_name c.args.index.now name c.args.place (none_from _ c.if-not-contains_key.ensures) in
    record { each = λ other. ap (lookup (same_name other)) grown ∙ lookup-push (same_name other) c.args.index.now.entries name c.args.place }
