-- What the names of the code stand for, beside what is known by the definition.
use Rattle.std.specs.Prelude.{◌≡◌, ℕ, List, Option, None, Some, Result, Ok, Err, ⊤, map, is_some, unwrap_or}
use Rattle.std.specs.List.{list_any}
use Rattle.std.specs.Str.{bytes_eq}
use Rattle.fm_names.specs.Named.{named}
use Rattle.fm_grammar.specs.Score as text
use Rattle.fm_meaning.specs.Ranges.{Names}
use Rattle.fm_meaning.specs.Resolve.{Named, meaning_of}
use Rattle.fm_rules.specs.declared.fault.CheckFault.{CheckFault}
use Rattle.fm_rules.specs.declared.fault.CheckFault.TheVariants.{Refused}
use Rattle.fm_rules.specs.declared.why.Why.TheVariants.{DoubleName, UnknownName}
use Rattle.fm_expansion.specs.Outline.{done, Tables}
use Rattle.fm_expansion.specs.Numbering.{Catalogue}
use Rattle.fm_outline.specs.declared.known.Known.{Known}
use Rattle.fm_outline.specs.declared.known.Meaning.{Meaning}
use Rattle.fm_outline.specs.declared.known.Meaning.TheVariants.{Shape, Phrase}
use Rattle.fm_outline.specs.View.{Look, phrase_at}
use Rattle.fm_outline.specs.Forking.{IsKnownOf}

-- the index of a shape, where a name stands for one
abbrev pub shape_index : Option Meaning → Option ℕ
shape_index (Some (Shape index)) = Some index
shape_index _ = None

-- the number of a phrase, where a name stands for one
abbrev pub phrase_number : Option Meaning → Option ℕ
phrase_number (Some (Phrase number)) = Some number
phrase_number _ = None

-- the number of a name, or the fault of one that nothing is known of
abbrev pub number_or_told : text.Leaf → Option ℕ → Result ℕ CheckFault
number_or_told name (Some n) = Ok n
number_or_told name None = Err (Refused UnknownName name.spot)

-- a name to be defined, or the fault of one that is known
abbrev pub new_or_told : text.Leaf → Option Meaning → Result ⊤ CheckFault
new_or_told name None = Ok tt
new_or_told name (Some m) = Err (Refused DoubleName name.spot)

-- the names of definitions
abbrev pub labels : {A : Type 0} → List (Named A) → List (List ℕ)
labels ds = map (λ d. d.name) ds

-- the names that are defined, and the ticks of a whole note
abbrev pub names_of : Catalogue → Names
names_of k = record { whole = k.whole; shapes = labels k.shapes; phrases = labels k.phrases }

-- a whole note has as many ticks, each name stands for the same, and the same names are known
pub record Knows (known : Known) (look : Look) (k : Catalogue) : Type 0 where
  pub whole : k.whole ≡ known.whole
  pub shapes : (name : List ℕ) → unwrap_or (shape_index (named known.names name)) 0 ≡ meaning_of name 0 k.shapes
  pub phrases : (name : List ℕ)
      → phrase_at look (phrase_number (named known.names name)) ≡ meaning_of name done k.phrases
  pub is_shape : (name : List ℕ)
      → is_some (shape_index (named known.names name)) ≡ list_any (bytes_eq name) (labels k.shapes)
  pub is_phrase : (name : List ℕ)
      → is_some (phrase_number (named known.names name)) ≡ list_any (bytes_eq name) (labels k.phrases)

-- of each phrase it is known what it asks, where the tables are these
abbrev pub KnowsNeeds : Known → Tables → Look → Type 0
KnowsNeeds known t look =
    (name : List ℕ) → IsKnownOf known.needs.items t look (phrase_number (named known.names name))
