-- A step more keeps the head and the steps what they must be.
use Rattle.fm_record.proofs.TapeLemmas.{tape_more}
use Rattle.fm_record.proofs.tape.Tape.push.Goals as goal

pub invariant_of-self : goal.invariant_of-self
invariant_of-self c =
    tape_more c.self.inside.start c.self.inside.bytes.items c.push_step.new.bytes.items c.args.step.now c.in-Ok.ensures.ok c.requires
    c.self.invariant
