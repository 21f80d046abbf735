-- Facts on results that the library lacks: an answer that no fault fits is a success.
use Rattle.std.proofs.Common.{Result, Ok, Err, refl}
use Rattle.std.specs.Result.{MatchResult, IsOk}

-- an answer that no fault fits is a success
pub ok_from : {A E : Type 0} (r : Result A E) (P : A → Type 0) (Q : E → Type 0) → MatchResult r P Q → ((e : E) → Q e → ⊥) → IsOk r
ok_from (Ok x) P Q m h = refl
ok_from (Err e) P Q m h = absurd (h e m)
