-- What a name stands for in a table.
use Rattle.std.specs.Prelude.{ℕ, List, Option, None, Some, Bool, true, cond}
use Rattle.std.specs.BTreeMap.{get_by}
use Rattle.std.specs.Cmp.Lexicographic.{slice_cmp}
use Rattle.std.specs.Ordering.{nat_cmp}
use Rattle.std.specs.Str.{bytes_eq}
use Rattle.fm_names.specs.Key.{key_of}
use Rattle.fm_names.specs.declared.names.First.{First}
use Rattle.fm_names.specs.declared.names.Names.{Names}

-- what is kept at the key of a name
abbrev pub first_at : {V : Type 0} → Names V → List ℕ → Option (First V)
first_at t name = get_by (nat_cmp (key_of name)) t.firsts

-- what is kept for a name whose key is another's
abbrev pub other_at : {V : Type 0} → Names V → List ℕ → Option V
other_at t name = get_by (λ k. slice_cmp nat_cmp name k.now) t.others

-- what a name stands for by what is kept at its key, or else by the other answer
abbrev pub chosen : {V : Type 0} → List ℕ → Option (First V) → Option V → Option V
chosen name None other = other
chosen name (Some first) other = cond (bytes_eq first.text.now name) (Some first.value) other

-- whether a key is free for a name: nothing is kept there, or this name
abbrev pub is_free : {V : Type 0} → List ℕ → Option (First V) → Bool
is_free name None = true
is_free name (Some first) = bytes_eq first.text.now name

-- what the latest definition of a name gives, where there is one
unfoldable pub named : {V : Type 0} → Names V → List ℕ → Option V
named t name = chosen name (first_at t name) (other_at t name)
