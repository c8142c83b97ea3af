-- The grammar of statements and scores, and what each of its lines plays, in the words of `Values`.
use Rattle.std.specs.Prelude.{ℕ, ◌*◌, min, max, ◌==◌, true, false, if◌then◌else◌, List, [], ◌∷◌, Ok, codes}
use Rattle.fm_grammar.specs.Grammar.{NumForm}
use Rattle.fm_grammar.specs.Score.{Leaf}
use Rattle.fm_grammar.specs.Signs.{tok, key, num}
use Rattle.fm_lex.specs.declared.keyword.Keyword.TheVariants.{Formula, Seed, Shape, Phrase, Note, Play, Rest, Skip, Control, Program, Bend, Set, If, Else, Repeat, Max, Do, Par, Branch, Warp, Channel, Volume, Gate, Rhythm, Artic, Loud}
use Rattle.fm_lex.specs.declared.kind.Kind.TheVariants.{Name, Register, End}
use Rattle.fm_lex.specs.declared.spot.Spot.{Spot}
use Rattle.fm_lex.specs.Bytes.{first_spot}
use Rattle.fm_meaning.specs.Resolve.{Known, meaning_of, named_as, nothing_known}
use Rattle.fm_meaning.specs.Resolved.{DataSource, LengthSource, beat, at_most, duration, articulation, loudness, Passage, done, item, Fork, joined, Resolved}
use Rattle.fm_meaning.specs.Resolved as says
use Rattle.fm_msg.specs.declared.profile.Profile.{Profile}
use Rattle.fm_msg.specs.declared.profile.TheConstants.{DIVISION}
use Rattle.fm_msg.specs.declared.running.TheConstants.{LEAST_DIVISION, MOST_DIVISION}
use Rattle.fm_value.specs.declared.node.Node.{Node}
use Rattle.fm_warp.specs.declared.part.Part.{Part}
use Rattle.fm_spelling.specs.Values.{Tokens, sign, SeveralSay, NumberSays, LengthSays, PartSays, ExprSays, AmountSays, DurationSays, PitchSays}

-- the spot of the first token
abbrev pub spot_of_first : Tokens → Spot
spot_of_first (Ok t ∷ ts) = t.spot
spot_of_first ts = first_spot

mutual
  -- { stmt }
  pub data StmtsSay (k : Known) : Tokens → Passage → Tokens → Type 0 where
    no_stmt : {after : Tokens} → StmtsSay k after done after
    stmt : {before middle after : Tokens} {x : says.Play} {more : Passage} → StmtSays k before x middle
        → StmtsSay k middle more after → StmtsSay k before (item (spot_of_first before) x more) after

  -- block = "{" { stmt } "}"
  pub data BlockSays (k : Known) : Tokens → Passage → Tokens → Type 0 where
    block : {before after : Tokens} {body : Passage} (o c : Leaf) → StmtsSay k before body (sign (codes "}") c ∷ after)
        → BlockSays k (sign (codes "{") o ∷ before) body after

  -- [ "else" block ]
  pub data ElseSays (k : Known) : Tokens → Passage → Tokens → Type 0 where
    no_else : {after : Tokens} → ElseSays k after done after
    otherwise : {before after : Tokens} {body : Passage} (w : Leaf) → BlockSays k before body after
        → ElseSays k (key Else w ∷ before) body after

  -- { "branch" block }
  pub data BranchesSay (k : Known) : Tokens → Fork → Tokens → Type 0 where
    no_branch : {after : Tokens} → BranchesSay k after joined after
    branch : {before middle after : Tokens} {body : Passage} {others : Fork} (w : Leaf) → BlockSays k before body middle
        → BranchesSay k middle others after → BranchesSay k (key Branch w ∷ before) (says.branch body others) after

  -- a statement
  pub data StmtSays (k : Known) : Tokens → says.Play → Tokens → Type 0 where
    note : {before middle after : Tokens} {keys : List DataSource} {span : LengthSource} (w e : Leaf)
        → SeveralSay PitchSays before keys middle → DurationSays k.whole middle span (sign (codes ";") e ∷ after)
        → StmtSays k (key Note w ∷ before) (says.note keys span) after
    play : {before after : Tokens} {keys : List DataSource} (w e : Leaf)
        → SeveralSay PitchSays before keys (sign (codes ";") e ∷ after)
        → StmtSays k (key Play w ∷ before) (says.note keys beat) after
    rest : {before after : Tokens} {span : LengthSource} (w e : Leaf)
        → DurationSays k.whole before span (sign (codes ";") e ∷ after)
        → StmtSays k (key Rest w ∷ before) (says.rest span) after
    skip : {after : Tokens} (w e : Leaf) → StmtSays k (key Skip w ∷ sign (codes ";") e ∷ after) (says.rest beat) after
    control : {before after : Tokens} {x : DataSource} (w e : Leaf) (n : NumForm)
        → AmountSays before x (sign (codes ";") e ∷ after)
        → StmtSays k (key Control w ∷ num n ∷ before) (says.send (says.control n.value) x) after
    program : {before after : Tokens} {x : DataSource} (w e : Leaf) → AmountSays before x (sign (codes ";") e ∷ after)
        → StmtSays k (key Program w ∷ before) (says.send says.program x) after
    bend : {before after : Tokens} {x : DataSource} (w e : Leaf) → AmountSays before x (sign (codes ";") e ∷ after)
        → StmtSays k (key Bend w ∷ before) (says.send says.bend x) after
    set : {before after : Tokens} {xs : List Node} (w l q e : Leaf) (r : ℕ)
        → ExprSays before xs (sign (codes ";") e ∷ after)
        → StmtSays k (key Set w ∷ tok (Register r) l ∷ sign (codes "=") q ∷ before) (says.assign r xs) after
    choice : {before b c after : Tokens} {xs : List Node} {first second : Passage} (w : Leaf) → ExprSays before xs b
        → BlockSays k b first c → ElseSays k c second after
        → StmtSays k (key If w ∷ before) (says.choice xs first second) after
    repeat : {before after : Tokens} {body : Passage} (w : Leaf) (n : NumForm) → BlockSays k before body after
        → StmtSays k (key Repeat w ∷ num n ∷ before) (says.loop (says.times n.value) body) after
    again : {before middle after : Tokens} {xs : List Node} {body : Passage} (w o c m : Leaf) (n : NumForm)
        → ExprSays before xs (sign (codes ")") c ∷ key Max m ∷ num n ∷ middle) → BlockSays k middle body after
        → StmtSays k (key Repeat w ∷ sign (codes "(") o ∷ before) (says.loop (at_most xs n.value) body) after
    call : {after : Tokens} (w n e : Leaf)
        → StmtSays k (key Do w ∷ tok Name n ∷ sign (codes ";") e ∷ after)
        (says.phrase (meaning_of n.text done k.phrases)) after
    par : {before middle after : Tokens} {body : Passage} {others : Fork} (w o f c : Leaf)
        → BlockSays k before body middle
        → BranchesSay k middle others (sign (codes "}") c ∷ after)
        → StmtSays k (key Par w ∷ sign (codes "{") o ∷ key Branch f ∷ before) (says.par (says.branch body others)) after
    warp : {before after : Tokens} {body : Passage} (w n : Leaf) → BlockSays k before body after
        → StmtSays k (key Warp w ∷ tok Name n ∷ before) (says.warp (meaning_of n.text [] k.shapes) body) after
    channel : {before after : Tokens} {body : Passage} (w : Leaf) (n : NumForm) → BlockSays k before body after
        → StmtSays k (key Channel w ∷ num n ∷ before) (says.channel n.value body) after
    volume : {before after : Tokens} {body : Passage} (w : Leaf) (n : NumForm) → BlockSays k before body after
        → StmtSays k (key Volume w ∷ num n ∷ before) (says.steady loudness n.value body) after
    gate : {before after : Tokens} {body : Passage} (w : Leaf) (n : NumForm) → BlockSays k before body after
        → StmtSays k (key Gate w ∷ num n ∷ before) (says.steady articulation n.value body) after
    rhythm : {before middle after : Tokens} {xs : List ℕ} {body : Passage} (w o c : Leaf)
        → SeveralSay (LengthSays k.whole) before xs (sign (codes "]") c ∷ middle) → BlockSays k middle body after
        → StmtSays k (key Rhythm w ∷ sign (codes "[") o ∷ before) (says.under duration xs body) after
    artic : {before middle after : Tokens} {xs : List ℕ} {body : Passage} (w o c : Leaf)
        → SeveralSay NumberSays before xs (sign (codes "]") c ∷ middle) → BlockSays k middle body after
        → StmtSays k (key Artic w ∷ sign (codes "[") o ∷ before) (says.under articulation xs body) after
    loud : {before middle after : Tokens} {xs : List ℕ} {body : Passage} (w o c : Leaf)
        → SeveralSay NumberSays before xs (sign (codes "]") c ∷ middle) → BlockSays k middle body after
        → StmtSays k (key Loud w ∷ sign (codes "[") o ∷ before) (says.under loudness xs body) after

-- { entry } END, with entry = "shape" NAME "=" part { "," part } ";" | "phrase" NAME block | stmt: a name is known
-- behind its
-- definition
pub data EntriesSay : Known → Tokens → Passage → Type 0 where
  no_entry : {k : Known} (l : Leaf) → EntriesSay k (tok End l ∷ []) done
  shape : {k : Known} {before after : Tokens} {parts : List Part} {more : Passage} (w n q e : Leaf)
      → SeveralSay (PartSays k.whole) before parts (sign (codes ";") e ∷ after)
      → EntriesSay (record k { shapes = named_as n parts ∷ k.shapes }) after more
      → EntriesSay k (key Shape w ∷ tok Name n ∷ sign (codes "=") q ∷ before) more
  phrase : {k : Known} {before after : Tokens} {body more : Passage} (w n : Leaf) → BlockSays k before body after
      → EntriesSay (record k { phrases = named_as n body ∷ k.phrases }) after more
      → EntriesSay k (key Phrase w ∷ tok Name n ∷ before) more
  plays : {k : Known} {before after : Tokens} {x : says.Play} {more : Passage} → StmtSays k before x after
      → EntriesSay k after more → EntriesSay k before (item (spot_of_first before) x more)

-- [ "seed" NUMBER ";" ]
pub data SeedSays : Tokens → ℕ → Tokens → Type 0 where
  no_seed : {after : Tokens} → SeedSays after 0 after
  seed : {after : Tokens} (w e : Leaf) (n : NumForm)
      → SeedSays (key Seed w ∷ num n ∷ sign (codes ";") e ∷ after) n.value after

-- [ "division" NUMBER ";" ]: the ticks of a quarter note, within their range
pub data DivisionSays : Tokens → ℕ → Tokens → Type 0 where
  no_division : {after : Tokens} → DivisionSays after DIVISION after
  division : {after : Tokens} (w e : Leaf) (n : NumForm)
      → DivisionSays (tok Name w ∷ num n ∷ sign (codes ";") e ∷ after)
      (min (max n.value LEAST_DIVISION) MOST_DIVISION) after

-- how the file of a score is written: in the first version each status byte stands, in the second running status is
abbrev pub profile_in : (version quarter : ℕ) → Profile
profile_in version quarter =
    if version == 2 then record { running = true; division = quarter }
    else record { running = false; division = DIVISION }

-- score = "formula" NUMBER ";" [ "division" NUMBER ";" ] [ "seed" NUMBER ";" ] { entry } END: how its file is written,
-- and what
-- it plays, of which the longest duration of a rhythm is no part
pub data ScoreSays : Tokens → Profile → Resolved → Type 0 where
  score : {a b c : Tokens} {quarter start : ℕ} {passage : Passage} (w e : Leaf) (n : NumForm) (longest : ℕ)
      → DivisionSays a quarter b → SeedSays b start c
      → EntriesSay (nothing_known (4 * (profile_in n.value quarter).division)) c passage
      → ScoreSays (key Formula w ∷ num n ∷ sign (codes ";") e ∷ a) (profile_in n.value quarter)
      (record { seed = start; longest = longest; passage = passage })
