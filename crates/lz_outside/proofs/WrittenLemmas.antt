-- What a sink gains by two writes.
use Rattle.std.proofs.Common.{◌≡◌, ℕ, ◌+◌, ◌≤◌, List, ◌++◌, length, ◌-◌, Option, Some, None, take, drop, ap, ◌∙◌, append_assoc, subst, arith}
use Rattle.std.proofs.Math.Seq.{take-add}
use Rattle.std.proofs.lemmas.List.{take_rest}
use Rattle.lz_outside.specs.Written.{Gains}

pub Gains-append : (a b c : Option (List ℕ)) (xs ys : List ℕ) → Gains a b xs → Gains b c ys → Gains a c (xs ++ ys)
Gains-append None b c xs ys h k = subst (λ (o : Option (List ℕ)). Gains o c ys) h k
Gains-append (Some w) b c xs ys h k =
    let q : c ≡ Some ((w ++ xs) ++ ys) = subst (λ (o : Option (List ℕ)). Gains o c ys) h k in
    q ∙ ap (λ (x : List ℕ). Some x) (append_assoc w xs ys)

-- a front gained, and then a piece of the slice that is left
pub Gains-put : (a b c : Option (List ℕ)) (i n : ℕ) (xs : List ℕ) →
    Gains a b (take i xs) → Gains b c (take n (take (length xs - i) (drop i xs))) → Gains a c (take (i + n) xs)
Gains-put a b c i n xs h k =
    rw (take-add i n xs)
    (Gains-append a b c (take i xs) (take n (drop i xs)) h
    (subst (λ (x : List ℕ). Gains b c (take n x)) (take_rest xs i) k))
