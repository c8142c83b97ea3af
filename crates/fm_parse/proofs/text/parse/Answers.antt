-- The one score, or the one fault.
use Rattle.fm_parse.proofs.Verdicts.{answered, refused_with}
use Rattle.fm_parse.proofs.text.parse.Goals as goal

pub returns-clause-reading : goal.returns-clause-reading
returns-clause-reading c = λ score reads. answered _ score _ c.read_score.ensures.reads c.read_score.ensures.trips reads

pub returns-clause-tripping : goal.returns-clause-tripping
returns-clause-tripping c = λ fault trips. refused_with _ fault _ c.read_score.ensures.reads c.read_score.ensures.trips
    trips
