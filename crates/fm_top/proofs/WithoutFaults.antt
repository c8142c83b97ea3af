-- Which end of a run over files comes of an input, where no call failed.
use Rattle.std.proofs.Common.{◌≡◌, ◌⊎◌, ℕ, ◌<◌, List, Option, Some, None, refl, sym, ◌∙◌, subst, inl, inr, arith}
use Rattle.fm_edge.specs.Host.{FileRead, FileWritten, Terminal}
use Rattle.fm_tell.specs.Telling.{fault_status, fault_text}
use Rattle.fm_tell.specs.declared.run_fault.RunFault.{RunFault}
use Rattle.fm_tell.specs.declared.status.TheConstants.{DONE, OUT_OF_MEMORY, WORDS_REFUSED}
use Rattle.fm_top.specs.Files.{ByInput, ComesTo, Ends, IsInput, IsPartOf, MakesOf, RefusesOf, done, memory, read, refused, said, unsaid, words, write}
use Rattle.fm_top.specs.Products.{Makes, Product, Refuses, Work, leaves, puts, writes}
use Rattle.fm_top.specs.Tasks.{number_of}
use Rattle.fm_top.specs.Verdicts.{OneVerdict}
use Rattle.fm_top.specs.declared.task.Task.{Task}

-- a count that rose and is 0
no_count : {A : Type 0} (n : ℕ) → 0 < n → n ≡ 0 → A
no_count n rose none = absurd (omega (arith, rose, none))

no_task : {A : Type 0} (asked : Option Task) (t : Task) → asked ≡ None → asked ≡ Some t → A
no_task asked t none given = absurd cc

same_task : (asked : Option Task) (t u : Task) → asked ≡ Some t → asked ≡ Some u → u ≡ t
same_task asked t u given also = cc

-- a write that failed was counted
part_counts : (w : Work) (sink : FileWritten) → IsPartOf w sink → 0 < sink.faults
part_counts (writes profile events end) sink part = part.1
part_counts (puts whole) sink part = part.1
part_counts leaves sink part = absurd part

module _ (one : OneVerdict) (asked : Option Task) (source : FileRead) (sink : FileWritten) where
  -- an input is one
  same_input : (number : Option ℕ) (a b : List ℕ) → IsInput source number a → IsInput source number b → b ≡ a
  same_input None a b is also = also ∙ sym is
  same_input (Some number) a b is also = also.0 ∙ sym is.0

  module _ (t : Task) (input : List ℕ) (given : asked ≡ Some t) (is : IsInput source (number_of t) input) where
    -- what is made of the input of what is asked for is made of this one
    makes_this : (u : Task) (made : Product) → asked ≡ Some u → MakesOf source u made → Makes t input made
    makes_this u made also m =
        let m' : MakesOf source t made = subst (λ v. MakesOf source v made) (same_task asked t u given also) m in
        subst (λ z. Makes t z made) (same_input (number_of t) input m'.input is m'.is) m'.makes

    refuses_this : (u : Task) (fault : RunFault) → asked ≡ Some u → RefusesOf source u fault → Refuses t input fault
    refuses_this u fault also r =
        let r' : RefusesOf source t fault = subst (λ v. RefusesOf source v fault) (same_task asked t u given also) r in
        subst (λ z. Refuses t z fault) (same_input (number_of t) input r'.input is r'.is) r'.refuses

    comes_made : (made : Product) (status : ℕ) (line : List ℕ) → Makes t input made → source.faults ≡ 0 → sink.faults ≡ 0
        → ComesTo asked source sink status line → (status ≡ DONE) ⊎ (status ≡ OUT_OF_MEMORY)
    comes_made made status line makes calm still (done u m is tells also of_input read_all written) = inl is
    comes_made made status line makes calm still (words is tells none alone left) = no_task asked t none given
    comes_made made status line makes calm still (read u is tells also of_source rose left) = no_count source.faults rose calm
    comes_made made status line makes calm still (refused u f is tells also r none_failed left) =
        absurd (one.apart t input made f makes (refuses_this u f also r))
    comes_made made status line makes calm still (write u m is tells also of_input none_failed part) =
        no_count sink.faults (part_counts m.work sink part) still
    comes_made made status line makes calm still (memory is tells none_failed left) = inr is

    comes_refused : (fault : RunFault) (status : ℕ) (line : List ℕ) → Refuses t input fault → source.faults ≡ 0
        → ComesTo asked source sink status line
        → ((status ≡ fault_status fault) × (line ≡ fault_text fault)) ⊎ (status ≡ OUT_OF_MEMORY)
    comes_refused fault status line refuses calm (done u m is tells also of_input read_all written) =
        absurd (one.apart t input m fault (makes_this u m also of_input) refuses)
    comes_refused fault status line refuses calm (words is tells none alone left) = no_task asked t none given
    comes_refused fault status line refuses calm (read u is tells also of_source rose left) = no_count source.faults rose calm
    comes_refused fault status line refuses calm (refused u f is tells also r none_failed left) =
        let same : f ≡ fault = one.fault t input f fault (refuses_this u f also r) refuses in
        inl (subst (λ g. (status ≡ fault_status g) × (line ≡ fault_text g)) same (is, tells))
    comes_refused fault status line refuses calm (write u m is tells also of_input none_failed part) =
        absurd (one.apart t input m fault (makes_this u m also of_input) refuses)
    comes_refused fault status line refuses calm (memory is tells none_failed left) = inr is

  comes_words : (status : ℕ) (line : List ℕ) → asked ≡ None → ComesTo asked source sink status line
      → (status ≡ WORDS_REFUSED) ⊎ (status ≡ OUT_OF_MEMORY)
  comes_words status line none (done u m is tells also of_input read_all written) = no_task asked u none also
  comes_words status line none (words is tells no_words alone left) = inl is
  comes_words status line none (read u is tells also of_source rose left) = no_task asked u none also
  comes_words status line none (refused u f is tells also r none_failed left) = no_task asked u none also
  comes_words status line none (write u m is tells also of_input none_failed part) = no_task asked u none also
  comes_words status line none (memory is tells none_failed left) = inr is

  pub by_input : (console : Terminal) (status : ℕ) → Ends asked source sink console status
      → ByInput asked source sink console status
  by_input console status (said comes quiet) = record {
    words = λ none still. comes_words status console.bytes none comes;
    made = λ t input m given is makes calm still silent.
        comes_made t input given is m status console.bytes makes calm still comes;
    refused = λ t input fault given is refuses calm silent.
        comes_refused t input given is fault status console.bytes refuses calm comes;
  }
  by_input console status (unsaid meant line comes is front rose) = record {
    words = λ none still. no_count console.faults rose still;
    made = λ t input m given is makes calm still silent. no_count console.faults rose silent;
    refused = λ t input fault given is refuses calm silent. no_count console.faults rose silent;
  }
