-- What a run does to the outside.
use Rattle.std.specs.Prelude.{◌≡◌, ◌⊎◌, ℕ, List, Option, Result, Ok, Err}
use Rattle.cc_base.specs.Outside.{HasRisen, IsPrefixOut, appended}
use Rattle.cc_base.specs.declared.outside.Files as files_trait
use Rattle.cc_base.specs.declared.outside.Sink as sink_trait
use Rattle.cc_base.specs.declared.outside.Source as source_trait
use Rattle.quiet_commands.specs.declared.answers.Answer.{Answer}
use Rattle.quiet_commands.specs.declared.ends.End.{End}
use Rattle.quiet_commands.specs.declared.ends.End.TheVariants.{WriteFault, Memory}

-- the input and the output: what was told to be left, the counts of faults of both, and what was told to be written, before and after
pub record Console : Type 0 where
  pub left : Option (List ℕ)
  pub in_before : ℕ
  pub in_now : ℕ
  pub out_before : ℕ
  pub out_now : ℕ
  pub written_before : Option (List ℕ)
  pub written_now : Option (List ℕ)

abbrev pub io_of : {L : Type 0} → (L → Option (List ℕ)) → (L → ℕ) → (L → ℕ) → (L → Option (List ℕ)) → L → L → Console
io_of left source sink written before now = record {
  left = left before;
  in_before = source before;
  in_now = source now;
  out_before = sink before;
  out_now = sink now;
  written_before = written before;
  written_now = written now;
}

-- the contents of the files, the counts of their faults before and after, and the input and the output
pub record Edge : Type 0 where
  pub told : List ℕ → Option (List ℕ)
  pub files_before : ℕ
  pub files_now : ℕ
  pub io : Console

abbrev pub edge : {F : Type 0} → (F → List ℕ → Option (List ℕ)) → (F → ℕ) → F → F → Console → Edge
edge contents faults before now io = record { told = contents before; files_before = faults before; files_now = faults now; io = io }

-- ---- the same by what the traits tell

abbrev pub io_view : {L : Type 0} → source_trait.Ghosts L → sink_trait.Ghosts L → L → L → Console
io_view r w before now = io_of r.left r.faults w.faults w.written before now

abbrev pub edge_view : {F L : Type 0} → files_trait.Ghosts F → source_trait.Ghosts L → sink_trait.Ghosts L → F → F → L → L → Edge
edge_view f r w before now console_before console_now = edge f.contents f.faults before now (io_view r w console_before console_now)

-- nothing was written
abbrev pub IsSilent : Console → Type 0
IsSilent io = io.written_now ≡ io.written_before

-- a text that a command may make was written, and the run ends as that says; or the write failed, and a prefix of the text is out
abbrev pub Wrote : Console → (List ℕ → End → Type 0) → End → Type 0
Wrote io P WriteFault = (text : List ℕ) × (end : End) × P text end × HasRisen io.out_before io.out_now × IsPrefixOut io.written_before io.written_now text
Wrote io P end = (text : List ℕ) × P text end × (io.written_now ≡ appended io.written_before text)

-- what was made is written, and the run ends as it says; or the write failed; or nothing was made, and nothing is written
abbrev pub Writes : {E : Type 0} → Console → Result Answer E → End → Type 0
Writes io (Ok a) end = ((end ≡ a.end) × (io.written_now ≡ appended io.written_before a.text.items)) ⊎ ((end ≡ WriteFault) × HasRisen io.out_before io.out_now × IsPrefixOut io.written_before io.written_now a.text.items)
Writes io (Err fault) end = (end ≡ Memory) × IsSilent io
