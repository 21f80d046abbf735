-- A text has at most one first line without a reading, and none where it is a schedule.
use Rattle.std.proofs.Common.{◌≡◌, ℕ, suc, ◌+◌, List, [], ◌∷◌, ◌++◌, length, refl, sym, ◌∙◌, ap, subst}
use Rattle.lz_base.proofs.ListLemmas.{cons_parts}
use Rattle.lz_model.specs.declared.schedule.Step.{Step}
use Rattle.lz_model.specs.ScheduleText.{Reads, ReadLines, IsFirstBad}

-- each of the lines that have a reading has one
read_middle : (front : List (List ℕ)) (line : List ℕ) (back : List (List ℕ)) (steps : List Step) → ReadLines (front ++ line ∷ back) steps → (some : List Step) × Reads line some
read_middle [] line back steps r = (r.0, r.2)
read_middle (first ∷ front) line back steps r = read_middle front line back r.1 r.3

pub no_first_bad : {P : Type 0} (lines : List (List ℕ)) (steps : List Step) (line : ℕ) → ReadLines lines steps → IsFirstBad lines line → P
no_first_bad lines steps line r b =
    let some = read_middle b.front b.line b.back steps (subst (λ (ls : List (List ℕ)). ReadLines ls steps) b.divided r) in
    absurd (b.bad some.0 some.1)

-- two fronts that have a reading, before lines that have none
same_fronts : (f g : List (List ℕ)) (x y : List ℕ) (b c : List (List ℕ)) (s t : List Step) → f ++ x ∷ b ≡ g ++ y ∷ c → ReadLines f s → ReadLines g t
    → ((some : List Step) → Reads x some → ⊥) → ((some : List Step) → Reads y some → ⊥) → length f ≡ length g
same_fronts [] [] x y b c s t e r q bad worse = refl
same_fronts [] (k ∷ g) x y b c s t e r q bad worse =
    let same : k ≡ x = sym (cons_parts e).0 in absurd (bad q.0 (subst (λ (l : List ℕ). Reads l q.0) same q.2))
same_fronts (h ∷ f) [] x y b c s t e r q bad worse =
    let same : h ≡ y = (cons_parts e).0 in absurd (worse r.0 (subst (λ (l : List ℕ). Reads l r.0) same r.2))
same_fronts (h ∷ f) (k ∷ g) x y b c s t e r q bad worse =
    ap suc (same_fronts f g x y b c r.1 q.1 (cons_parts e).1 r.3 q.3 bad worse)

pub one_first_bad : (lines : List (List ℕ)) (a b : ℕ) → IsFirstBad lines a → IsFirstBad lines b → a ≡ b
one_first_bad lines a b p q =
    let same : length p.front ≡ length q.front =
    same_fronts p.front q.front p.line q.line p.back q.back p.steps q.steps (sym p.divided ∙ q.divided) p.read q.read p.bad q.bad in
    p.counted ∙ ap (λ (n : ℕ). n + 1) same ∙ sym q.counted
