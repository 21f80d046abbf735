-- A tree in rows does the same.
use Rattle.std.proofs.Common.{◌≡◌, ℕ, Bool, true, false, List, [], ◌∷◌, ◌++◌, inl, inr, refl, sym, ap, ap₂, ◌∙◌, subst, append-nil, append_assoc}
use Rattle.lz_model.specs.Actions.{Act}
use Rattle.lz_model.specs.Behaviours.{Outcome, done, exits, cut, Behaviour, ends_with, ◌and_then◌, ◌gives◌, picks}
use Rattle.lz_model.specs.CodeTraces.{Locals}
use Rattle.lz_model.proofs.FrontsLemmas.{Fronts}
use Rattle.lz_tree.specs.WellScoped.{Setting}
use Rattle.lz_agree.specs.Correspondence.{SameBehaviour}
use Rattle.lz_agree.proofs.CorrespondsLemmas.{lasts_of}
use Rattle.lz_agree.proofs.SameLemmas.{same_refl, same_trans, same_flip, same_then, same_value, then_assoc}
use Rattle.lz_bound.specs.BoundedTrees.{BoundedStatement, evals, fresh, clear, nothing, seq, when, frame, leave, exit, stuck, inside, bounded_statements_of}
use Rattle.lz_bound.specs.BoundedTraces.{Leaving, through, left, passes, bounded_trace}
use Rattle.lz_bound.specs.CreateSites.{sites, no_bodies, tree_sites}
use Rattle.lz_bound.specs.WellFormed.{IsTree}
use Rattle.lz_bound.specs.Rows.{parts_of, in_rows}
use Rattle.lz_bound.proofs.OpensLemmas.{opens_value, opens_tree}
use Rattle.lz_bound.proofs.TreeFrontsLemmas.{fronts_bounded}

-- a list after a list
pub sequence-append : (xs ys : List BoundedStatement) → SameBehaviour (bounded_trace (bounded_statements_of xs) and_then λ u. passes u (bounded_trace (bounded_statements_of ys))) (bounded_trace (bounded_statements_of (xs ++ ys)))
sequence-append [] ys = same_value through (opens_tree (bounded_statements_of ys))
sequence-append (x ∷ xs) ys =
    same_trans (same_flip (then_assoc (bounded_trace x) (λ u. passes u (bounded_trace (bounded_statements_of xs))) (λ u. passes u (bounded_trace (bounded_statements_of ys)))))
    (same_then same_refl (λ u. by u (sequence-append xs ys)))
  where
    by : (u : Leaving) → SameBehaviour (bounded_trace (bounded_statements_of xs) and_then λ u. passes u (bounded_trace (bounded_statements_of ys))) (bounded_trace (bounded_statements_of (xs ++ ys)))
        → SameBehaviour (passes u (bounded_trace (bounded_statements_of xs)) and_then λ u. passes u (bounded_trace (bounded_statements_of ys))) (passes u (bounded_trace (bounded_statements_of (xs ++ ys))))
    by through ih = ih
    by (left k) ih = same_value (left k) opens_value

module _ {S A : Type 0} where
  -- a value after code is the code's own
  same_last : {P : Behaviour S A} → Fronts P → SameBehaviour P (P and_then λ v. ends_with v)
  same_last {P} f = record { to = λ s acts o h. to s acts o h; from = λ s acts o h. from s acts o h }
    where
      to : (s : S) (acts : List Act) (o : Outcome S A) → P s acts o → (P and_then λ v. ends_with v) s acts o
      to s acts (done u v) h = record { is = record { value = v; middle = u; front = acts; rest = []; joined = sym (append-nil acts); starts = h; goes = record { is = (refl, refl, refl) } } }
      to s acts (exits w) h = record { is = inl h }
      to s acts cut h = record { is = inl h }

      ended : (s : S) (acts : List Act) (u m : S) (v a : A) (front rest : List Act) → acts ≡ front ++ rest → rest ≡ [] → u ≡ m → v ≡ a → P s front (done m a) → P s acts (done u v)
      ended s acts u m v a front rest e r d k h =
          let same : front ≡ acts = sym (e ∙ ap (λ (x : List Act). front ++ x) r ∙ append-nil front) in
          subst (λ (x : List Act). P s x (done u v)) same (subst (λ (z : S). P s front (done z v)) (sym d) (subst (λ (z : A). P s front (done m z)) (sym k) h))

      from : (s : S) (acts : List Act) (o : Outcome S A) → (P and_then λ v. ends_with v) s acts o → P s acts o
      from s acts (done u v) h = let g = h.is in ended s acts u g.middle v g.value g.front g.rest g.joined g.goes.is.0 g.goes.is.1 g.goes.is.2 g.starts
      from s acts (exits w) h = elim h.is [ inl c ↦ c | inr g ↦ absurd g.goes.is ]
      from s acts cut h = elim h.is [ inl c ↦ c | inr g ↦ lasts_of f s acts g.middle g.value (ended s acts g.middle g.middle g.value g.value g.front g.rest g.joined g.goes.is refl refl g.starts) ]

  same_picks : (b : Bool) {P P' Q Q' : Behaviour S A} → SameBehaviour P P' → SameBehaviour Q Q' → SameBehaviour (picks b P Q) (picks b P' Q')
  same_picks true p q = p
  same_picks false p q = q

module _ {S A B : Type 0} where
  same_gives : {P Q : Behaviour S A} {f : A → B} → SameBehaviour P Q → SameBehaviour (P gives f) (Q gives f)
  same_gives {P} {Q} {f} e = record { to = λ s acts o h. to s acts o h; from = λ s acts o h. from s acts o h }
    where
      to : (s : S) (acts : List Act) (o : Outcome S B) → (P gives f) s acts o → (Q gives f) s acts o
      to s acts (done u v) h = record { is = (h.is.0, e.to s acts (done u h.is.0) h.is.1, h.is.2) }
      to s acts (exits w) h = record { is = e.to s acts (exits w) h.is }
      to s acts cut h = record { is = e.to s acts cut h.is }

      from : (s : S) (acts : List Act) (o : Outcome S B) → (Q gives f) s acts o → (P gives f) s acts o
      from s acts (done u v) h = record { is = (h.is.0, e.from s acts (done u h.is.0) h.is.1, h.is.2) }
      from s acts (exits w) h = record { is = e.from s acts (exits w) h.is }
      from s acts cut h = record { is = e.from s acts cut h.is }

same_passes : (u : Leaving) {P Q : Behaviour Locals Leaving} → SameBehaviour P Q → SameBehaviour (passes u P) (passes u Q)
same_passes through e = e
same_passes (left k) e = same_refl

-- a list of one
one_part : (b : BoundedStatement) → SameBehaviour (bounded_trace b) (bounded_trace (bounded_statements_of (b ∷ [])))
one_part b = same_trans (same_last (fronts_bounded b)) (same_then same_refl (λ u. by u))
  where
    by : (u : Leaving) → SameBehaviour {S = Locals} (ends_with u) (passes u (ends_with through))
    by through = same_refl
    by (left k) = same_refl

-- a tree in rows does what the tree does
pub rows_same : (b : BoundedStatement) → SameBehaviour (bounded_trace b) (bounded_trace (in_rows b))
rows_same (evals e to) = one_part (evals e to)
rows_same (fresh x) = one_part (fresh x)
rows_same (clear x) = one_part (clear x)
rows_same nothing = same_refl
rows_same (seq a b) = same_trans (same_then (rows_same a) (λ u. same_passes u (rows_same b))) (sequence-append (parts_of a) (parts_of b))
rows_same (when test a b) = same_trans (same_then same_refl (λ v. same_then same_refl (λ go. same_picks go (rows_same a) (rows_same b)))) (one_part (when test (in_rows a) (in_rows b)))
rows_same (frame number body) = same_trans (same_gives (rows_same body)) (one_part (frame number (in_rows body)))
rows_same (leave number) = one_part (leave number)
rows_same (exit w) = one_part (exit w)
rows_same stuck = one_part stuck
rows_same (inside line index len) = one_part (inside line index len)

-- ---- sites and conditions

sequence_sites : (xs ys : List BoundedStatement) → tree_sites (bounded_statements_of (xs ++ ys)) ≡ tree_sites (bounded_statements_of xs) ++ tree_sites (bounded_statements_of ys)
sequence_sites [] ys = refl
sequence_sites (x ∷ xs) ys = ap (λ (zs : List ℕ). tree_sites x ++ zs) (sequence_sites xs ys) ∙ sym (append_assoc (tree_sites x) (tree_sites (bounded_statements_of xs)) (tree_sites (bounded_statements_of ys)))

-- its create sites are those of the tree
pub rows_sites : (b : BoundedStatement) → tree_sites (in_rows b) ≡ tree_sites b
rows_sites (evals e to) = append-nil (tree_sites (evals e to))
rows_sites (fresh x) = refl
rows_sites (clear x) = refl
rows_sites nothing = refl
rows_sites (seq a b) = sequence_sites (parts_of a) (parts_of b) ∙ ap₂ ◌++◌ (rows_sites a) (rows_sites b)
rows_sites (when test a b) = append-nil (tree_sites (when test (in_rows a) (in_rows b))) ∙ ap₂ (λ (xs ys : List ℕ). sites no_bodies test ++ (xs ++ ys)) (rows_sites a) (rows_sites b)
rows_sites (frame number body) = append-nil (tree_sites (in_rows body)) ∙ rows_sites body
rows_sites (leave number) = refl
rows_sites (exit w) = refl
rows_sites stuck = refl
rows_sites (inside line index len) = append-nil (tree_sites (inside line index len))

sequence_fits : (w : Setting) (frames : List ℕ) (xs ys : List BoundedStatement) → IsTree w frames (bounded_statements_of xs) → IsTree w frames (bounded_statements_of ys) → IsTree w frames (bounded_statements_of (xs ++ ys))
sequence_fits w frames [] ys f g = g
sequence_fits w frames (x ∷ xs) ys f g = (f.0, sequence_fits w frames xs ys f.1 g)

-- it is well formed where the tree is
pub rows_fit : (w : Setting) (frames : List ℕ) (b : BoundedStatement) → IsTree w frames b → IsTree w frames (in_rows b)
rows_fit w frames (evals e to) f = (f, tt)
rows_fit w frames (fresh x) f = (f, tt)
rows_fit w frames (clear x) f = (f, tt)
rows_fit w frames nothing f = tt
rows_fit w frames (seq a b) f = sequence_fits w frames (parts_of a) (parts_of b) (rows_fit w frames a f.0) (rows_fit w frames b f.1)
rows_fit w frames (when test a b) f = ((f.0, f.1, rows_fit w frames a f.2, rows_fit w frames b f.3), tt)
rows_fit w frames (frame number body) f = (rows_fit w (number ∷ frames) body f, tt)
rows_fit w frames (leave number) f = (f, tt)
rows_fit w frames (exit w_) f = (f, tt)
rows_fit w frames stuck f = (f, tt)
rows_fit w frames (inside line index len) f = (f, tt)
