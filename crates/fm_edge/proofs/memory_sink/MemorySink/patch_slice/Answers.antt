use Rattle.std.proofs.Common.{◌≡◌, ◌∙◌, sym, ap, arith, take, length, unwrap_or}
use Rattle.std.specs.Prelude.{is_some}
use Rattle.fm_edge.specs.Content.{overwritten}
use Rattle.fm_edge.proofs.SinkMemoryLemmas.{patch_breaks, listed_untold}
use Rattle.fm_edge.proofs.memory_sink.MemorySink.patch_slice.Goals as goal

pub returns-then-is_some-clause-err : goal.returns-then-is_some-clause-err
returns-then-is_some-clause-err c =
    let called = c.self.view_is ∙ c.begin_call-listed.ensures.state in
    let ended = c.fail.ensures in
    let four : length c.args.bytes.now ≡ 4 = c.requires.four in
    let front = c.listed_front-front.ensures ∙ ap (λ k. take (unwrap_or c.begin_call-listed.result k) c.args.bytes.now) four in
    patch_breaks c.args.self.now c.fail.new.self c.begin_call-listed.result c.args.at c.args.bytes.now
    four
    (omega (arith, ap (λ z. z.faults) called))
    (ap (λ z. z.content) ended ∙ c.write_over.ensures.items
    ∙ ap (λ z. overwritten z.content c.args.at c.listed_front-front.result.now) called
    ∙ ap (overwritten c.args.self.now.content c.args.at) front)
    (ap (λ z. z.capacity) ended ∙ ap (λ z. z.capacity) called)
    (ap (λ z. z.failing) ended ∙ ap (λ z. z.failing) called)
    (omega (arith, ap (λ z. z.faults) ended, ap (λ z. z.faults) called))
    (λ sure. listed_untold _ _ _ (ap is_some (sym c.begin_call-listed.ensures.listed) ∙ sym c.is_some.ensures ∙ c.if-is_some.true) sure)
