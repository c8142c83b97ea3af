use Rattle.fm_excerpt.specs.Written.{HasExcerpts}
use Rattle.fm_file_tests.proofs.CutAgain.{cut_held}
use Rattle.fm_file_tests.proofs.excerpt.excerpt_again.Goals as goal

pub excerpt_of-requires-clause-written : goal.excerpt_of-requires-clause-written
excerpt_of-requires-clause-written g c =
    let h : HasExcerpts c.args.profile.now c.in-Ok.file = c.requires.written c.in-Ok.file c.in-Ok.ensures.ok in
    cut_held c.args.profile.now c.in-Ok.file h _ _ c.content-content.result.now _ c.content-content.ensures
    (c.in-Ok-excerpt.ensures.ok h.events h.end h.is).whole c.if-content-gt-MAX_FILE.false
