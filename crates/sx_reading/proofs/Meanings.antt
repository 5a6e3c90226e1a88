-- The meaning of bytes that are read whole before anything comes of them.
use Rattle.std.proofs.Common.{◌≡◌, ◌≢◌, ℕ, ◌^◌, ◌<◌, Bool, true, false, List, [], length, Option, Some, None, refl}
use Rattle.sx_limits.specs.declared.faults.DocFault.{DocFault}
use Rattle.sx_reading.specs.Transforming.{IsMeaning, nothing_written, whole_outcome}
use Rattle.sx_reading.specs.declared.consumer.Outcome.TheVariants as outcomes
use Rattle.sx_reading.specs.declared.status.Input.{Input}

-- only what has ended is done, and then nothing is broken off
pub whole_done : (input : Input) (fault : Option DocFault) (ended : Bool) → whole_outcome input fault ended ≡ Some outcomes.Done → (ended ≡ true) × (fault ≡ None)
whole_done input (Some f) ended q = absurd (cc)
whole_done input None true q = (refl, refl)
whole_done input None false q = absurd (cc)

whole_ends : (input : Input) (fault : Option DocFault) → whole_outcome input fault true ≢ None
whole_ends input (Some f) q = cc
whole_ends input None q = cc

broken_ends : (input : Input) (fault : Option DocFault) (ended : Bool) → fault ≢ None → whole_outcome input fault ended ≢ None
broken_ends input (Some f) ended some q = cc
broken_ends input None ended some q = some refl

-- Where bytes beyond the limit are broken off, this is a meaning.
pub whole_means : (input : Input) (break : List ℕ → Bool → Option DocFault) → ((b : List ℕ) (ended : Bool) → 2 ^ 40 < length b → break b ended ≢ None)
    → IsMeaning nothing_written (λ b ended. whole_outcome input (break b ended) ended)
whole_means input break bounded = record {
  grows = λ b d ended. ([], refl);
  done = λ b ended q. (whole_done input (break b ended) ended q).0;
  ends = λ b. whole_ends input (break b true);
  bounded = λ b ended lt. broken_ends input (break b ended) ended (bounded b ended lt);
}
