use Rattle.std.proofs.Common.{◌∙◌, sym, ap, arith, ◌++◌, take, length, unwrap_or}
use Rattle.std.specs.Prelude.{is_some}
use Rattle.fm_edge.proofs.SinkMemoryLemmas.{put_breaks, listed_unsure, sure_fits, front-whole}
use Rattle.fm_edge.proofs.memory_sink.MemorySinkAppend.put.Goals as goal
use Rattle.fm_edge.proofs.memory_sink.MemorySinkAppend.put.Goals.{then-is_some-via-then-is_some}
use Rattle.fm_edge.proofs.memory_sink.MemorySinkAppend.put.Goals.{then-is_some-via-else-is_some+then-count-piece}

pub returns-then-is_some-clause-err : goal.returns-then-is_some-clause-err
returns-then-is_some-clause-err c =
    let called = c.self.view_is ∙ c.begin_call-listed.ensures.state in
    let ended = c.fail.ensures in
    let count = c.append_within-count.result in
    let most = unwrap_or c.begin_call-listed.result (length c.args.piece.now) in
    put_breaks c.args.self.now c.fail.new.self c.args.piece.now count most
    (omega (arith, ap (λ z. z.faults) called))
    (ap (λ z. z.content) ended ∙ c.append_within-count.ensures.items
    ∙ ap (λ z. c.self.inside.bytes.items ++ take count z) c.listed_front-front.ensures
    ∙ ap (λ z. z.content ++ take count (take most c.args.piece.now)) called)
    (ap (λ z. z.capacity) ended ∙ ap (λ z. z.capacity) called)
    (ap (λ z. z.failing) ended ∙ ap (λ z. z.failing) called)
    (omega (arith, ap (λ z. z.faults) ended, ap (λ z. z.faults) called))
    (λ room. elim c.then-is_some.branch [
      | then-is_some-via-then-is_some w ↦
          listed_unsure _ _ _ _ _ (ap is_some (sym c.begin_call-listed.ensures.listed) ∙ sym c.is_some.ensures ∙ w.if-is_some.true) room
      | then-is_some-via-else-is_some+then-count-piece w ↦
          let whole = c.listed_front-front.ensures
          ∙ front-whole c.begin_call-listed.result c.args.piece.now (sym c.is_some.ensures ∙ w.if-is_some.false) in
          sure_fits _ _ count _ _ (omega (
            arith,
            c.append_within-count.ensures.count,
            ap length whole,
            ap (λ z. z.capacity) called,
            ap (λ z. length z.content) called,
          )) w.if-count-piece.true room
    ])
