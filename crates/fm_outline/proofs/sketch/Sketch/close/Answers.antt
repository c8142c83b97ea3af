use Rattle.std.proofs.Common.{◌∙◌, ap}
use Rattle.fm_expansion.specs.Outline.{passage_in}
use Rattle.fm_outline.proofs.SketchLemmas.{ends_walked}
use Rattle.fm_outline.proofs.WalkLemmas.{ends_as_outline, ends_asking, ends_faultless, ends_phrases, phrases_stand}
use Rattle.fm_outline.proofs.ForkLemmas.{forks_marked}
use Rattle.fm_outline.proofs.sketch.Sketch.close.Goals as goal

pub returns-clause-outline : goal.returns-clause-outline
returns-clause-outline c = λ s o. record {
  view = ends_as_outline (ends_walked o);
  seed = o.seed;
  rules = o.rules;
  marked = record {
    block = forks_marked _ _ _ (ends_asking (ends_walked o));
    phrases = λ n within. forks_marked _ _ _ (ends_phrases (ends_walked o) n within);
  };
  asking = record { block = ends_asking (ends_walked o); phrases = ends_phrases (ends_walked o) };
}

pub returns-clause-faultless : goal.returns-clause-faultless
returns-clause-faultless c = λ s o. ends_faultless (ends_walked o)

pub returns-clause-passage : goal.returns-clause-passage
returns-clause-passage c = λ s o.
    ap (λ x. passage_in x.tables x.value) (ends_as_outline (ends_walked o))
    ∙ c.outlines_stand_for_scores.ensures s (ends_faultless (ends_walked o))

pub returns-clause-phrases : goal.returns-clause-phrases
returns-clause-phrases c = λ s o. record { at = phrases_stand (ends_walked o) }
