-- What holds of the inputs of a task: none makes something and is refused, and none is refused with two faults.
use Rattle.std.specs.Prelude.{◌≡◌, ℕ, ◌<◌, ◌≤◌, List, length}
use Rattle.fm_top.specs.Products.{Makes, Product, Refuses}
use Rattle.fm_top.specs.Tasks.{most_of}
use Rattle.fm_tell.specs.declared.run_fault.RunFault.{RunFault}
use Rattle.fm_top.specs.declared.task.Task.{Task}
use Rattle.fm_top.specs.declared.task.Task.TheVariants as task

-- an input makes one product at most; of records there are many
abbrev pub HasOneProduct : Task → Type 0
HasOneProduct (task.Record number setup) = ⊥
HasOneProduct t = Unit {0}

-- the verdict of a task is one; and of more bytes than are read it is the same, whatever follows
pub record OneVerdict : Type 0 where
  pub made : (t : Task) (input : List ℕ) (m n : Product) → HasOneProduct t → Makes t input m → Makes t input n → m ≡ n
  pub apart : (t : Task) (input : List ℕ) (m : Product) (f : RunFault) → Makes t input m → Refuses t input f → ⊥
  pub fault : (t : Task) (input : List ℕ) (f g : RunFault) → Refuses t input f → Refuses t input g → f ≡ g
  pub longer : (t : Task) (input told : List ℕ) (f : RunFault) → most_of t < length input → length input ≤ length told
      → Refuses t input f → Refuses t told f
