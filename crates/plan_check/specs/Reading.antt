-- What a reader gives, and what is read back.
use Rattle.std.specs.Prelude.{◌≡◌, Option, Some, None, Result, Ok, Err}
use Rattle.serde_json.specs.Data.{Data}
use Rattle.plan_check.specs.declared.read.TraceFault.{TraceFault}
use Rattle.plan_check.specs.declared.read.TraceFault.TheVariants.{NotATrace, Memory}

-- what a function returned, seen by view, is the meaning, unless memory ran out
abbrev pub Gives : {X Y : Type 0} → (X → Y) → Result X TraceFault → Option Y → Type 0
Gives view (Ok x) meaning = meaning ≡ Some (view x)
Gives view (Err NotATrace) meaning = meaning ≡ None
Gives view (Err Memory) meaning = Unit {0}

-- what is written of a thing is read as that thing
abbrev pub IsReadBack : {X : Type 0} → (Data → Option X) → (X → Data) → X → Type 0
IsReadBack read write x = read (write x) ≡ Some x
