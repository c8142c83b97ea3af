use Rattle.std.proofs.Common.{◌∙◌, ap, map, refl, sym, subst, take}
use Rattle.std.specs.Prelude.{vec_items, slice_index_or}
use Rattle.fm_meaning.specs.Resolved.{done}
use Rattle.fm_expansion.specs.Outline.{passage_in}
use Rattle.fm_outline.specs.View.{tables_view, look_in, block_view, phrases_view}
use Rattle.fm_outline.proofs.PhraseLemmas.{found_all, found_by_number, found_more}
use Rattle.fm_outline.specs.Forking.{AreMarked}
use Rattle.fm_outline.proofs.ForkLemmas.{phrase_marked}
use Rattle.fm_check.specs.Weight.{weight_in}
use Rattle.fm_check.proofs.totals.weigh_phrases.Goals as goal

pub loop-phrase-preserved : goal.loop-phrase-preserved
loop-phrase-preserved c = λ n is.
    let t = tables_view c.args.tables.now in
    let k = c.loop-phrase.phrase-index in
    let blocks = phrases_view (map vec_items (take k c.args.phrases.now)) in
    let known = c.loop-phrase.invariant n is in
    let marks = subst (AreMarked (look_in blocks)) (sym c.deref.ensures.value)
    (phrase_marked c.args.phrases.now k c.phrase-item.result c.loop-phrase-test.true c.phrase-item.is refl c.requires).1 in
    let own = c.weigh_steps-own.ensures n (look_in blocks) is marks (record {
      of_phrase = λ m. ap (λ l. slice_index_or l m (weight_in n done)) c.as_slice.ensures.value
          ∙ found_by_number (λ b. weight_in n (passage_in t b)) c.loop-phrase.sums.items blocks known m;
    }) in
    c.in_ok-push.ensures.items
    ∙ found_more (λ b. weight_in n (passage_in t b)) vec_items c.args.phrases.now k c.phrase-item.result
    c.loop-phrase.sums.items c.weigh_steps-own.result c.loop-phrase-test.true c.phrase-item.is known
    (own ∙ ap (λ l. weight_in n (passage_in t (block_view (look_in blocks) l))) c.deref.ensures.value)

pub returns : goal.returns
returns c = λ n is.
    let t = tables_view c.args.tables.now in
    record {
      of_phrase = found_all (λ b. weight_in n (passage_in t b)) vec_items c.args.phrases.now c.loop-phrase.phrase-index
          c.loop-phrase.sums.items c.loop-phrase-test.false (c.loop-phrase.invariant n is);
    }
