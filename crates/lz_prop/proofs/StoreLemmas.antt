-- Clauses one behind the other.
use Rattle.std.proofs.Common.{◌≡◌, ℕ, zero, suc, ◌+◌, ◌-◌, ◌<◌, ◌≤◌, inl, inr, List, [], ◌∷◌, ◌++◌, length, get_or, take, drop, slice_range, refl, sym, ◌∙◌, ap, arith}
use Rattle.std.proofs.lemmas.Bool.{cases_lt}
use Rattle.std.proofs.lemmas.List.{length-append, length-drop, get_or_append_left, get_or_push, drop-append-le, drop_at, take-append-le, take_all, same_lists}
use Rattle.lz_cnf.specs.declared.clause.Lit.{Lit}
use Rattle.lz_prop.specs.Parts.{cut_at, AreCut}

pub length-cut : (literals : List Lit) (bounds : List ℕ) → length (cut_at literals bounds) ≡ length bounds - 1
length-cut literals [] = omega arith
length-cut literals (first ∷ []) = omega arith
length-cut literals (first ∷ second ∷ bounds) = let rest = length-cut literals (second ∷ bounds) in omega arith

pub get-cut : (literals : List Lit) (bounds : List ℕ) (k : ℕ) (d : List Lit) → suc k < length bounds
    → get_or (cut_at literals bounds) k d ≡ slice_range literals (get_or bounds k 0) (get_or bounds (suc k) 0)
get-cut literals [] k d lt = absurd (omega arith)
get-cut literals (first ∷ []) k d lt = absurd (omega arith)
get-cut literals (first ∷ second ∷ bounds) zero d lt = refl
get-cut literals (first ∷ second ∷ bounds) (suc k) d lt = get-cut literals (second ∷ bounds) k d (omega arith)

range-append : (xs ys : List Lit) (a b : ℕ) → a ≤ b → b ≤ length xs → slice_range (xs ++ ys) a b ≡ slice_range xs a b
range-append xs ys a b le within =
    let rest = length-drop a xs in
    ap (take (b - a)) (drop-append-le a xs ys (omega arith)) ∙ take-append-le (b - a) (drop a xs) ys (omega arith)

range_end : (xs ys : List Lit) (a b : ℕ) → a ≡ length xs → b ≡ length xs + length ys → slice_range (xs ++ ys) a b ≡ ys
range_end xs ys a b e f =
    ap (take (b - a)) (drop_at xs ys a (sym e)) ∙ take_all (b - a) ys (omega arith)

-- one more clause at the end
pub cut_more : (literals clause : List Lit) (bounds : List ℕ) (end : ℕ) → AreCut literals bounds → end ≡ length literals + length clause
    → cut_at (literals ++ clause) (bounds ++ end ∷ []) ≡ cut_at literals bounds ++ clause ∷ []
cut_more literals clause bounds end cut is_end =
    let n = length bounds - 1 in
    let some = cut.some in
    let last = cut.end in
    let old_long = length-cut literals bounds in
    let new_long = length-cut (literals ++ clause) (bounds ++ end ∷ []) in
    let more_long = length-append bounds (end ∷ []) in
    let sum_long = length-append (cut_at literals bounds) (clause ∷ []) in
    same_lists (cut_at (literals ++ clause) (bounds ++ end ∷ [])) (cut_at literals bounds ++ clause ∷ []) (omega arith)
    (λ k d lt.
    let whole = get-cut (literals ++ clause) (bounds ++ end ∷ []) k d (omega arith) in
    let low = get_or_append_left bounds (end ∷ []) 0 k (omega arith) in
    elim (cases_lt k n) [
      | inl below ↦
          (let high = get_or_append_left bounds (end ∷ []) 0 (suc k) (omega arith) in
          let rise = cut.rising k (omega arith) in
          let within = cut.within (suc k) (omega arith) in
          whole
          ∙ ap (λ (a : ℕ). slice_range (literals ++ clause) a (get_or (bounds ++ end ∷ []) (suc k) 0)) low
          ∙ ap (λ (b : ℕ). slice_range (literals ++ clause) (get_or bounds k 0) b) high
          ∙ range-append literals clause (get_or bounds k 0) (get_or bounds (suc k) 0) rise within
          ∙ sym (get-cut literals bounds k d (omega arith))
          ∙ sym (get_or_append_left (cut_at literals bounds) (clause ∷ []) d k (omega arith)))
      | inr above ↦
          (let at : k ≡ n = omega arith in
          let low_is : get_or (bounds ++ end ∷ []) k 0 ≡ length literals = low ∙ ap (λ (m : ℕ). get_or bounds m 0) at ∙ last in
          let high_is : get_or (bounds ++ end ∷ []) (suc k) 0 ≡ end = get_or_push bounds end 0 (suc k) (omega arith) in
          whole
          ∙ range_end literals clause (get_or (bounds ++ end ∷ []) k 0) (get_or (bounds ++ end ∷ []) (suc k) 0) low_is (high_is ∙ is_end)
          ∙ sym (get_or_push (cut_at literals bounds) clause d k (omega arith)))
    ])

pub are_cut_more : (literals clause : List Lit) (bounds : List ℕ) (end : ℕ) → AreCut literals bounds → end ≡ length literals + length clause → AreCut (literals ++ clause) (bounds ++ end ∷ [])
are_cut_more literals clause bounds end cut is_end =
    let some = cut.some in
    let last = cut.end in
    let long = length-append literals clause in
    let more_long = length-append bounds (end ∷ []) in
    let old : (k : ℕ) → k < length bounds → get_or (bounds ++ end ∷ []) k 0 ≡ get_or bounds k 0 = λ k lt. get_or_append_left bounds (end ∷ []) 0 k lt in
    let own : (k : ℕ) → k ≡ length bounds → get_or (bounds ++ end ∷ []) k 0 ≡ end = λ k e. get_or_push bounds end 0 k (sym e) in
    record {
      some = omega arith;
      start = old 0 some ∙ cut.start;
      end = (let e = own (length (bounds ++ end ∷ []) - 1) (omega arith) in omega arith);
      rising = λ k lt. elim (cases_lt (suc k) (length bounds)) [
        | inl below ↦ (let a = old k (omega arith) in let b = old (suc k) below in let c = cut.rising k below in omega arith)
        | inr above ↦ (let a = old k (omega arith) in let b = own (suc k) (omega arith) in let c = cut.within k (omega arith) in omega arith)
      ];
      within = λ k lt. elim (cases_lt k (length bounds)) [
        | inl below ↦ (let a = old k below in let c = cut.within k below in omega arith)
        | inr above ↦ (let b = own k (omega arith) in omega arith)
      ];
    }
