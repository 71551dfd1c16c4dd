use Rattle.std.proofs.Common.{◌≡◌, ◌∙◌, refl, inl, inr, length, map, arith}
use Rattle.std.proofs.lemmas.List.{length-map}
use Rattle.quiet_commands.specs.declared.ends.End.TheVariants as end
use Rattle.cc_program.proofs.entry.run_threads.Goals as goal

pub returns-in_default : goal.returns-in_default
returns-in_default g c = rw c.lent.ensures (end.Memory, c.end_without_memory.ensures.status, c.end_without_memory.ensures.told, inl (refl, refl, refl))

pub returns : goal.returns
returns g c =
    let run = c.run_live-status in
    let ended = run.ensures.ended in
    let long : length c.in-Ok.copiers.items ≡ 129 = omega (arith, c.in-Ok.ensures) in (
      ended.0,
      c.exit_code.ensures ∙ ended.1,
      ended.3,
      inr (record {
        given = _;
        console_is = refl;
        net_is = refl;
        enough = length-map _ _ ∙ long;
        cluster = c.new-admin.result;
        leaves = ended.2;
      }),
    )
