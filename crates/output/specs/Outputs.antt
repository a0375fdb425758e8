-- What is written through an output. Assumes nothing.
use Rattle.std.specs.Prelude.{◌≡◌, ℕ, ◌+◌, ◌≤◌, List, length}
use Rattle.output.specs.declared.Output.{Output}
use Rattle.output.specs.Writing.{Wrote}

-- n more items fit into the memory
abbrev pub HasRoom : {T : Type 0} → Output T → ℕ → Type 0
HasRoom o n = o.count + n ≤ length o.memory.now

-- the items were written behind what was written before, in the same memory
pub record Writes {T : Type 0} (old : Output T) (items : List T) (new : Output T) : Type 0 where
  pub wrote : Wrote old.memory.now old.count items new.memory.now new.count
  pub lender : new.memory.ghost_name ≡ old.memory.ghost_name
