-- Entries, one behind another.
use Rattle.std.proofs.Common.{◌≡◌, ℕ, ◌<◌, List, [], ◌∷◌, ◌++◌, Option, None, Bool, Result, Err, length, refl, sym, ap, ◌∙◌, subst, arith}
use Rattle.std.specs.Prelude.{◌≢◌}
use Rattle.fm_lex.specs.declared.kind.Kind.TheVariants.{Name}
use Rattle.fm_lex.specs.declared.kind.Kind.TheVariants as kinds
use Rattle.fm_lex.specs.declared.keyword.Keyword.TheVariants.{Shape, Phrase}
use Rattle.fm_lex.specs.Tokens.{Lexed}
use Rattle.fm_grammar.specs.Grammar.{EntryForm, shape, phrase, plays, EntriesForm, no_entry, entry}
use Rattle.fm_grammar.specs.Signs.{semicolon, equals, tok}
use Rattle.fm_grammar.specs.Spelling.{entry_text, entries_text, part_text}
use Rattle.fm_grammar.specs.Standing.{entry_tree, entries_tree}
use Rattle.fm_grammar.specs.Reads.{Fault}
use Rattle.fm_grammar.specs.Rules.{Sym, one, entries, parts, with_commas, block}
use Rattle.fm_grammar.specs.Table.{opened}
use Rattle.fm_terms.specs.declared.fault.ParseFault.{ParseFault}
use Rattle.fm_terms.specs.Reader.{first_kind}
use Rattle.fm_terms.specs.Follow.{At, Says, IsThere}
use Rattle.fm_parse.specs.Statements.{starter}
use Rattle.fm_parse.specs.Whole.{EntryLeads, shape_syms, phrase_syms}
use Rattle.fm_terms.proofs.Steps.{begun, skipped}
use Rattle.fm_parse.proofs.StmtRules.{no_entry_rule}
use Rattle.fm_terms.proofs.Lengths.{part_more}
use Rattle.fm_parse.proofs.StmtLengths.{listed_more, block_more, stmt_more}

-- an answer that hands a fault on
pub entry_stopped : (F : Option Fault) (below : List Sym) (r : Result Bool ParseFault)
    (e : ParseFault) (new : List Lexed)
    → r ≡ Err e → Says e F → EntryLeads F below r new
entry_stopped F below r e new is says = subst (λ x. EntryLeads F below x new) (sym is) says

-- ---- where an entry begins

module _ (l : List Lexed) (there : IsThere l) (F : Option Fault) (u : ℕ) (below : List Sym) where
  pub at_shape : first_kind l ≡ kinds.Keyword Shape → At F u (entries ∷ below) l
      → At F u (shape_syms ++ (entries ∷ below)) l
  at_shape same a =
      begun there.token l there.is F u entries (kinds.Keyword Shape) (one Name ∷ one equals ∷ with_commas parts
      (one semicolon ∷ entries ∷ [])) below refl
      (sym (ap first_kind there.is) ∙ same) refl (omega (arith, a.braces)) (omega (arith, a.tokens)) a

  pub at_phrase : first_kind l ≡ kinds.Keyword Phrase → opened below ≡ 0 → At F u (entries ∷ below) l
      → At F u (phrase_syms ++ (entries ∷ below)) l
  at_phrase same d a =
      begun there.token l there.is F u entries (kinds.Keyword Phrase) (one Name ∷ block (entries ∷ [])) below refl
      (sym (ap first_kind there.is) ∙ same) refl (omega (arith, d, a.braces)) (omega (arith, a.tokens)) a

pub ends_entries : (l : List Lexed) (there : IsThere l) (F : Option Fault) (u : ℕ) (below : List Sym)
    → starter (first_kind l) ≡ None
    → first_kind l ≢ kinds.Keyword Shape → first_kind l ≢ kinds.Keyword Phrase → At F u (entries ∷ below) l
    → At F 0 below l
ends_entries l there F u below none s p a =
    let kind : there.token.kind ≡ first_kind l = sym (ap first_kind there.is) in
    skipped there.token l there.is F u entries below refl refl
    (no_entry_rule there.token.kind (ap starter kind ∙ none) (λ h. s (sym kind ∙ h)) (λ h. p (sym kind ∙ h))) a

-- ---- what was read

abbrev pub entries_with : EntriesForm → EntryForm → EntriesForm
entries_with no_entry x = entry x no_entry
entries_with (entry e es) x = entry e (entries_with es x)

pub entries_with_text : (es : EntriesForm) (x : EntryForm) (next : List Lexed)
    → entries_text (entries_with es x) next ≡ entries_text es (entry_text x next)
entries_with_text no_entry x next = refl
entries_with_text (entry e es) x next = ap (entry_text e) (entries_with_text es x next)

pub entries_with_tree : (es : EntriesForm) (x : EntryForm)
    → entries_tree (entries_with es x) ≡ entries_tree es ++ entry_tree x ∷ []
entries_with_tree no_entry x = refl
entries_with_tree (entry e es) x = ap (λ l. entry_tree e ∷ l) (entries_with_tree es x)

-- an entry is no shorter than its first token
pub entry_more : (e : EntryForm) (next : List Lexed) → length next < length (entry_text e next)
entry_more (shape w n q ps e) next = omega (arith, listed_more part_text part_more ps (tok semicolon e ∷ next))
entry_more (phrase w n b) next = omega (arith, block_more b next)
entry_more (plays s) next = stmt_more s next
