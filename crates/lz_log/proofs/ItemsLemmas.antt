-- Items one behind the other with a 0 at their end, as literals and hints stand in a line.
use Rattle.std.proofs.Common.{refl, ◌≡◌, ℕ, List, [], ◌∷◌, ◌++◌, drop, sym, ap, ◌∙◌, append_assoc}
use Rattle.std.specs.Prelude.{codes}
use Rattle.std.specs.List.{All, flat_map}
use Rattle.std.proofs.lemmas.List.{flat_map_more}
use Rattle.std.proofs.lemmas.List.Elements.{All-head, All-tail}

-- the text of an item begins with no 0, and shows where it ends
pub record IsItemText {X : Type 0} (text : X → List ℕ) (P : X → Type 0) : Type 0 where
  pub not_zero : (x : X) (behind rest : List ℕ) → P x → text x ++ behind ≡ 48 ∷ rest → ⊥
  pub same : (x y : X) (behind rest : List ℕ) → P x → P y → text x ++ behind ≡ text y ++ rest → (x ≡ y) × (behind ≡ rest)

-- an item first, then the others and the 0
regroup : (one others rest : List ℕ) → ((one ++ others) ++ codes "0") ++ rest ≡ one ++ ((others ++ codes "0") ++ rest)
regroup one others rest = ap (λ (t : List ℕ). t ++ rest) (append_assoc one others (codes "0")) ∙ append_assoc one (others ++ codes "0") rest

-- behind some of the items the others go on
items_lead : {X : Type 0} (text : X → List ℕ) (P : X → Type 0) → IsItemText text P → (done : List X) (left : List ℕ) (whole : List X) (rest : List ℕ) → All P done → All P whole
    → flat_map text done ++ left ≡ (flat_map text whole ++ codes "0") ++ rest → (more : List X) × All P more × (left ≡ (flat_map text more ++ codes "0") ++ rest)
items_lead text P is [] left whole rest hd hw e = (whole, hw, e)
items_lead text P is (d ∷ ds) left [] rest hd hw e =
    absurd (is.not_zero d (flat_map text ds ++ left) rest (All-head P d ds hd) (sym (append_assoc (text d) (flat_map text ds) left) ∙ e))
items_lead text P is (d ∷ ds) left (w ∷ ws) rest hd hw e =
    let a : text d ++ (flat_map text ds ++ left) ≡ text w ++ ((flat_map text ws ++ codes "0") ++ rest) =
    sym (append_assoc (text d) (flat_map text ds) left) ∙ e ∙ regroup (text w) (flat_map text ws) rest in
    let b = (is.same d w (flat_map text ds ++ left) ((flat_map text ws ++ codes "0") ++ rest) (All-head P d ds hd) (All-head P w ws hw) a).1 in
    items_lead text P is ds left ws rest (All-tail P d ds hd) (All-tail P w ws hw) b

-- the 0 ends the items
pub items_end : {X : Type 0} (text : X → List ℕ) (bytes : List ℕ) (done : List X) (left rest : List ℕ) → bytes ≡ flat_map text done ++ left → left ≡ 48 ∷ rest → bytes ≡ (flat_map text done ++ codes "0") ++ rest
items_end text bytes done left rest e z = e ∙ ap (λ (t : List ℕ). flat_map text done ++ t) z ∙ sym (append_assoc (flat_map text done) (codes "0") rest)

-- one more item
pub items_more : {X : Type 0} (text : X → List ℕ) (bytes : List ℕ) (done : List X) (x : X) (left rest : List ℕ) → bytes ≡ flat_map text done ++ left → left ≡ text x ++ rest → bytes ≡ flat_map text (done ++ x ∷ []) ++ rest
items_more text bytes done x left rest e z =
    e ∙ ap (λ (t : List ℕ). flat_map text done ++ t) z ∙ sym (append_assoc (flat_map text done) (text x) rest) ∙ ap (λ (t : List ℕ). t ++ rest) (flat_map_more text [] done x)

stop : {X : Type 0} (text : X → List ℕ) (P : X → Type 0) (left : List ℕ) (more : List X) (rest : List ℕ) → ((r : List ℕ) → left ≡ 48 ∷ r → ⊥) → ((x : X) (r : List ℕ) → P x → left ≡ text x ++ r → ⊥)
    → All P more → left ≡ (flat_map text more ++ codes "0") ++ rest → ⊥
stop text P left [] rest no_zero no_item h e = no_zero rest e
stop text P left (x ∷ xs) rest no_zero no_item h e = no_item x ((flat_map text xs ++ codes "0") ++ rest) (All-head P x xs h) (e ∙ regroup (text x) (flat_map text xs) rest)

-- where neither an item nor the 0 follows, no items stand at the front
pub items_stop : {X : Type 0} (text : X → List ℕ) (P : X → Type 0) → IsItemText text P → (bytes : List ℕ) (done : List X) (left : List ℕ) → bytes ≡ flat_map text done ++ left → All P done
    → ((r : List ℕ) → left ≡ 48 ∷ r → ⊥) → ((x : X) (r : List ℕ) → P x → left ≡ text x ++ r → ⊥)
    → (whole : List X) (rest : List ℕ) → All P whole → bytes ≡ (flat_map text whole ++ codes "0") ++ rest → ⊥
items_stop text P is bytes done left e hd no_zero no_item whole rest hw w =
    let m = items_lead text P is done left whole rest hd hw (sym e ∙ w) in
    stop text P left m.0 rest no_zero no_item m.1 m.2

-- the items at the front are the only ones, and the same bytes follow them
pub items_once : {X : Type 0} (text : X → List ℕ) (P : X → Type 0) → IsItemText text P → (a b : List X) (mid rest : List ℕ) → All P a → All P b
    → (flat_map text a ++ codes "0") ++ mid ≡ (flat_map text b ++ codes "0") ++ rest → (a ≡ b) × (mid ≡ rest)
items_once text P is [] [] mid rest ha hb e = (refl, ap (λ (t : List ℕ). drop 1 t) e)
items_once text P is [] (y ∷ ys) mid rest ha hb e = absurd (is.not_zero y ((flat_map text ys ++ codes "0") ++ rest) mid (All-head P y ys hb) (sym (regroup (text y) (flat_map text ys) rest) ∙ sym e))
items_once text P is (x ∷ xs) [] mid rest ha hb e = absurd (is.not_zero x ((flat_map text xs ++ codes "0") ++ mid) rest (All-head P x xs ha) (sym (regroup (text x) (flat_map text xs) mid) ∙ e))
items_once text P is (x ∷ xs) (y ∷ ys) mid rest ha hb e =
    let a : text x ++ ((flat_map text xs ++ codes "0") ++ mid) ≡ text y ++ ((flat_map text ys ++ codes "0") ++ rest) =
    sym (regroup (text x) (flat_map text xs) mid) ∙ e ∙ regroup (text y) (flat_map text ys) rest in
    let first = is.same x y ((flat_map text xs ++ codes "0") ++ mid) ((flat_map text ys ++ codes "0") ++ rest) (All-head P x xs ha) (All-head P y ys hb) a in
    let others = items_once text P is xs ys mid rest (All-tail P x xs ha) (All-tail P y ys hb) first.1 in
    (rw (first.0, others.0) refl, others.1)
