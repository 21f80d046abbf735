-- What a file holds after two writes.
use Rattle.std.proofs.Math.Seq.{take-add}
use Rattle.std.proofs.Common.{◌≡◌, ℕ, ◌+◌, ◌≤◌, List, ◌++◌, length, ◌-◌, Option, Some, None, take, drop, ap, ◌∙◌, sym, subst}
use Rattle.std.proofs.lemmas.List.{take_rest}
use Rattle.lz_outside.specs.Files.{FileMap, Changes, KeepsOthers, bytes_of, bytes_or_none}

-- one more change of the same file
pub Changes-again : (a b c : Option FileMap) (name xs ys : List ℕ) →
    Changes a b name xs → Changes b c name (bytes_of b name ++ ys) → Changes a c name (xs ++ ys)
Changes-again None b c name xs ys h k = subst (λ (o : Option FileMap). Changes o c name (bytes_of o name ++ ys)) h k
Changes-again (Some before) None c name xs ys h k = absurd h
Changes-again (Some before) (Some mid) None name xs ys h k = absurd k
Changes-again (Some before) (Some mid) (Some after) name xs ys h k = (
  k.0 ∙ ap (λ (x : Option (List ℕ)). Some (bytes_or_none x ++ ys)) h.0,
  λ other d. k.1 other d ∙ h.1 other d,
)

-- a front was written, and then a piece of the slice that is left
pub Changes-piece : (a b c : Option FileMap) (name : List ℕ) (i n : ℕ) (xs : List ℕ) →
    Changes a b name (take i xs) →
    Changes b c name (bytes_of b name ++ take n (take (length xs - i) (drop i xs))) →
    Changes a c name (take (i + n) xs)
Changes-piece a b c name i n xs h k =
    rw (take-add i n xs)
    (Changes-again a b c name (take i xs) (take n (drop i xs)) h
    (subst (λ (x : List ℕ). Changes b c name (bytes_of b name ++ take n x)) (take_rest xs i) k))

-- other files stay by a change and a failure after it
pub KeepsOthers-after : (a b c : Option FileMap) (name xs : List ℕ) →
    Changes a b name xs → KeepsOthers b c name → KeepsOthers a c name
KeepsOthers-after None b c name xs h k = subst (λ (o : Option FileMap). KeepsOthers o c name) h k
KeepsOthers-after (Some before) None c name xs h k = absurd h
KeepsOthers-after (Some before) (Some mid) None name xs h k = absurd k
KeepsOthers-after (Some before) (Some mid) (Some after) name xs h k = λ other d. k other d ∙ h.1 other d
