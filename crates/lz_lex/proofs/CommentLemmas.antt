-- Ends of comments and texts: how many bytes there are up to an end, and which bytes end there.
use Rattle.std.proofs.Common.{◌≡◌, ℕ, zero, suc, ◌<◌, ◌≤◌, Bool, true, false, cond, eqb, List, [], ◌∷◌, length, take, drop, Option, Some, None, refl, sym, ap, subst, ◌∙◌, arith, inl, inr}
use Rattle.std.specs.Prelude.{◌&&◌, option_map}
use Rattle.std.specs.List.{list_all}
use Rattle.std.proofs.lemmas.Bool.{cases_Bool, cond-true, cond-false, and_parts, and_from, eqb-true, both_ways}
use Rattle.lz_tree.specs.Pieces.{begins, is, is_newline, is_blank, ends_comment, ends_text, ends_with_blanks}
use Rattle.lz_lex.specs.Scanning.{comment_end, text_end}

pub map_suc : (o : Option ℕ) (n : ℕ) → option_map suc o ≡ Some n → (k : ℕ) × (o ≡ Some k) × (n ≡ suc k)
map_suc None n e = absurd cc
map_suc (Some k) n e = let same : suc k ≡ n = cc in (k, refl, sym same)

-- ---- comments

abbrev closes : ℕ → List ℕ → Bool
closes byte rest = eqb byte 42 && begins (is 47) rest

-- an end of a front is one of the whole
begins_front : (i : ℕ) (rest : List ℕ) → begins (is 47) (take i rest) ≡ true → begins (is 47) rest ≡ true
begins_front zero rest h = absurd cc
begins_front (suc i) [] h = h
begins_front (suc i) (c ∷ rest) h = h

closes_front : (byte i : ℕ) (rest : List ℕ) → closes byte rest ≡ false → closes byte (take i rest) ≡ false
closes_front byte i rest h =
    elim (cases_Bool (closes byte (take i rest))) [
      | inl pass ↦
          let parts = and_parts (eqb byte 42) (begins (is 47) (take i rest)) pass in
          absurd (both_ways (closes byte rest) h (and_from (eqb byte 42) _ parts.0 (begins_front i rest parts.1)))
      | inr fail ↦ fail
    ]

-- bytes that end at the first end are as many as there are up to it
pub ended_comment : (xs : List ℕ) (j : ℕ) → j ≤ length xs → ends_comment (take j xs) ≡ true → comment_end xs ≡ Some j
ended_comment xs zero le h = absurd cc
ended_comment [] (suc i) le h = absurd (omega arith)
ended_comment (b ∷ []) (suc i) le h =
    let none : i ≡ 0 = omega arith in
    absurd (both_ways (ends_comment (b ∷ take i [])) (subst (λ (n : ℕ). ends_comment (b ∷ take n []) ≡ false) (sym none) (by (eqb b 42))) h)
  where
    by : (t : Bool) → cond (t && false) false false ≡ false
    by true = refl
    by false = refl
ended_comment (b ∷ c ∷ rest) (suc zero) le h = absurd (both_ways (ends_comment (b ∷ [])) (by (eqb b 42)) h)
  where
    by : (t : Bool) → cond (t && false) false false ≡ false
    by true = refl
    by false = refl
ended_comment (b ∷ c ∷ rest) (suc (suc i)) le h =
    elim (cases_Bool (closes b (c ∷ rest))) [
      | inl pass ↦
          let one : eqb (length (c ∷ take i rest)) 1 ≡ true = sym (cond-true (closes b (c ∷ rest)) _ _ pass) ∙ h in
          let size : length (c ∷ take i rest) ≡ 1 = eqb-true (length (c ∷ take i rest)) 1 one in
          let none : i ≡ 0 = at_most i rest (omega arith) (omega arith) in
          cond-true (closes b (c ∷ rest)) _ _ pass ∙ ap (λ (n : ℕ). Some (suc (suc n))) (sym none)
      | inr fail ↦
          let rest_ends : ends_comment (c ∷ take i rest) ≡ true = sym (cond-false (closes b (c ∷ rest)) _ _ fail) ∙ h in
          cond-false (closes b (c ∷ rest)) _ _ fail ∙ ap (option_map suc) (ended_comment (c ∷ rest) (suc i) (omega arith) rest_ends)
    ]
  where
    at_most : (i : ℕ) (rest : List ℕ) → i ≤ length rest → length (take i rest) ≡ 0 → i ≡ 0
    at_most zero rest le e = refl
    at_most (suc i) [] le e = absurd (omega arith)
    at_most (suc i) (x ∷ rest) le e = absurd (omega arith)

-- Bytes up to the first end.
pub record IsEnd (xs : List ℕ) (n : ℕ) : Type 0 where
  pub ends : ends_comment (take n xs) ≡ true
  pub two : 2 ≤ n
  pub within : n ≤ length xs

pub comment_ended : (xs : List ℕ) (n : ℕ) → comment_end xs ≡ Some n → IsEnd xs n
comment_ended [] n e = absurd cc
comment_ended (b ∷ []) n e =
    elim (cases_Bool (closes b [])) [
      | inl pass ↦ let parts = and_parts (eqb b 42) false pass in let bad : false ≡ true = parts.1 in absurd cc
      | inr fail ↦ let bad : None ≡ Some n = sym (cond-false (closes b []) (Some 2) None fail) ∙ e in absurd cc
    ]
comment_ended (b ∷ c ∷ rest) n e =
    elim (cases_Bool (closes b (c ∷ rest))) [
      | inl pass ↦
          let two : Some 2 ≡ Some n = sym (cond-true (closes b (c ∷ rest)) (Some 2) (option_map suc (comment_end (c ∷ rest))) pass) ∙ e in
          let same : 2 ≡ n = cc in
          subst (λ (m : ℕ). IsEnd (b ∷ c ∷ rest) m) same (record { ends = cond-true (closes b (c ∷ rest)) _ _ pass; two = omega arith; within = omega arith })
      | inr fail ↦
          let m = map_suc (comment_end (c ∷ rest)) n (sym (cond-false (closes b (c ∷ rest)) (Some 2) (option_map suc (comment_end (c ∷ rest))) fail) ∙ e) in
          let behind = comment_ended (c ∷ rest) m.0 m.1 in
          let ends : ends_comment (b ∷ take m.0 (c ∷ rest)) ≡ true =
          cond-false (closes b (take m.0 (c ∷ rest))) _ _ (closes_front b m.0 (c ∷ rest) fail) ∙ behind.ends in
          subst (λ (k : ℕ). IsEnd (b ∷ c ∷ rest) k) (sym m.2) (record { ends = ends; two = omega (arith, behind.two); within = omega (arith, behind.within) })
    ]

-- what stands behind the first end is blank
pub blanks_behind : (xs : List ℕ) (n : ℕ) → comment_end xs ≡ Some n → ends_with_blanks xs ≡ list_all is_blank (drop n xs)
blanks_behind [] n e = absurd cc
blanks_behind (b ∷ rest) n e =
    elim (cases_Bool (closes b rest)) [
      | inl pass ↦
          let two : Some 2 ≡ Some n = sym (cond-true (closes b rest) (Some 2) (option_map suc (comment_end rest)) pass) ∙ e in
          let same : 2 ≡ n = cc in
          cond-true (closes b rest) _ _ pass ∙ ap (λ (m : ℕ). list_all is_blank (drop m (b ∷ rest))) same
      | inr fail ↦
          let m = map_suc (comment_end rest) n (sym (cond-false (closes b rest) (Some 2) (option_map suc (comment_end rest)) fail) ∙ e) in
          cond-false (closes b rest) _ _ fail ∙ blanks_behind rest m.0 m.1 ∙ ap (λ (k : ℕ). list_all is_blank (drop k (b ∷ rest))) (sym m.2)
    ]

pub no_blanks_behind : (xs : List ℕ) → comment_end xs ≡ None → ends_with_blanks xs ≡ false
no_blanks_behind [] e = refl
no_blanks_behind (b ∷ rest) e =
    elim (cases_Bool (closes b rest)) [
      | inl pass ↦ let bad : Some 2 ≡ None = sym (cond-true (closes b rest) (Some 2) (option_map suc (comment_end rest)) pass) ∙ e in absurd cc
      | inr fail ↦
          cond-false (closes b rest) _ _ fail
          ∙ no_blanks_behind rest (by (comment_end rest) (sym (cond-false (closes b rest) (Some 2) (option_map suc (comment_end rest)) fail) ∙ e))
    ]
  where
    by : (o : Option ℕ) → option_map suc o ≡ None → o ≡ None
    by None e = refl
    by (Some n) e = absurd cc

-- ---- texts

pub ended_text : (escaped : Bool) (xs : List ℕ) (j : ℕ) → j ≤ length xs → ends_text escaped (take j xs) ≡ true → text_end escaped xs ≡ Some j
ended_text escaped xs zero le h = absurd cc
ended_text escaped [] (suc i) le h = absurd (omega arith)
ended_text true (b ∷ rest) (suc i) le h =
    elim (cases_Bool (is_newline b)) [
      | inl pass ↦ absurd (both_ways (ends_text true (b ∷ take i rest)) (cond-true (is_newline b) _ _ pass) h)
      | inr fail ↦
          let behind : ends_text false (take i rest) ≡ true = sym (cond-false (is_newline b) _ _ fail) ∙ h in
          cond-false (is_newline b) _ _ fail ∙ cond-false (eqb b 34 && false) _ _ (no (eqb b 34))
          ∙ ap (option_map suc) (ap (λ (t : Bool). text_end t rest) (no (eqb b 92)) ∙ ended_text false rest i (omega arith) behind)
    ]
  where
    no : (t : Bool) → (t && false) ≡ false
    no true = refl
    no false = refl
ended_text false (b ∷ rest) (suc i) le h =
    elim (cases_Bool (is_newline b)) [
      | inl pass ↦ absurd (both_ways (ends_text false (b ∷ take i rest)) (cond-true (is_newline b) _ _ pass) h)
      | inr fail ↦
          let more : cond (eqb b 34) (eqb (length (take i rest)) 0) (ends_text (eqb b 92) (take i rest)) ≡ true = sym (cond-false (is_newline b) _ _ fail) ∙ h in
          cond-false (is_newline b) _ _ fail ∙ elim (cases_Bool (eqb b 34)) [
            | inl quote ↦
                let none : length (take i rest) ≡ 0 = eqb-true _ 0 (sym (cond-true (eqb b 34) _ _ quote) ∙ more) in
                cond-true (eqb b 34 && true) _ _ (yes_ (eqb b 34) quote) ∙ ap (λ (n : ℕ). Some (suc n)) (sym (at_most i rest (omega arith) none))
            | inr other ↦
                let behind : ends_text (eqb b 92) (take i rest) ≡ true = sym (cond-false (eqb b 34) _ _ other) ∙ more in
                cond-false (eqb b 34 && true) _ _ (same (eqb b 34) ∙ other)
                ∙ ap (option_map suc) (ap (λ (t : Bool). text_end t rest) (same (eqb b 92)) ∙ ended_text (eqb b 92) rest i (omega arith) behind)
          ]
    ]
  where
    yes_ : (t : Bool) → t ≡ true → (t && true) ≡ true
    yes_ true e = refl
    yes_ false e = absurd cc

    same : (t : Bool) → (t && true) ≡ t
    same true = refl
    same false = refl

    at_most : (i : ℕ) (rest : List ℕ) → i ≤ length rest → length (take i rest) ≡ 0 → i ≡ 0
    at_most zero rest le e = refl
    at_most (suc i) [] le e = absurd (omega arith)
    at_most (suc i) (x ∷ rest) le e = absurd (omega arith)

-- Bytes up to the end of a text.
pub record IsTextEnd (escaped : Bool) (xs : List ℕ) (n : ℕ) : Type 0 where
  pub ends : ends_text escaped (take n xs) ≡ true
  pub some : 0 < n
  pub within : n ≤ length xs

pub text_ended : (escaped : Bool) (xs : List ℕ) (n : ℕ) → text_end escaped xs ≡ Some n → IsTextEnd escaped xs n
text_ended escaped [] n e = absurd cc
text_ended true (b ∷ rest) n e =
    elim (cases_Bool (is_newline b)) [
      | inl pass ↦ let bad : None ≡ Some n = sym (cond-true (is_newline b) None _ pass) ∙ e in absurd cc
      | inr fail ↦
          let e1 : cond (eqb b 34 && false) (Some 1) (option_map suc (text_end (eqb b 92 && false) rest)) ≡ Some n = sym (cond-false (is_newline b) None _ fail) ∙ e in
          let e2 : option_map suc (text_end (eqb b 92 && false) rest) ≡ Some n = sym (cond-false (eqb b 34 && false) (Some 1) _ (no (eqb b 34))) ∙ e1 in
          let m = map_suc (text_end (eqb b 92 && false) rest) n e2 in
          let behind = text_ended false rest m.0 (ap (λ (t : Bool). text_end t rest) (sym (no (eqb b 92))) ∙ m.1) in
          subst (λ (k : ℕ). IsTextEnd true (b ∷ rest) k) (sym m.2)
          (record { ends = cond-false (is_newline b) _ _ fail ∙ behind.ends; some = omega arith; within = omega (arith, behind.within) })
    ]
  where
    no : (t : Bool) → (t && false) ≡ false
    no true = refl
    no false = refl
text_ended false (b ∷ rest) n e =
    elim (cases_Bool (is_newline b)) [
      | inl pass ↦ let bad : None ≡ Some n = sym (cond-true (is_newline b) None _ pass) ∙ e in absurd cc
      | inr fail ↦
          let e1 : cond (eqb b 34 && true) (Some 1) (option_map suc (text_end (eqb b 92 && true) rest)) ≡ Some n = sym (cond-false (is_newline b) None _ fail) ∙ e in
          elim (cases_Bool (eqb b 34)) [
            | inl quote ↦
                let one : Some 1 ≡ Some n = sym (cond-true (eqb b 34 && true) (Some 1) _ (same (eqb b 34) ∙ quote)) ∙ e1 in
                let is : 1 ≡ n = cc in
                subst (λ (k : ℕ). IsTextEnd false (b ∷ rest) k) is
                (record { ends = cond-false (is_newline b) _ _ fail ∙ cond-true (eqb b 34) _ _ quote; some = omega arith; within = omega arith })
            | inr other ↦
                let e2 : option_map suc (text_end (eqb b 92 && true) rest) ≡ Some n = sym (cond-false (eqb b 34 && true) (Some 1) _ (same (eqb b 34) ∙ other)) ∙ e1 in
                let m = map_suc (text_end (eqb b 92 && true) rest) n e2 in
                let behind = text_ended (eqb b 92) rest m.0 (ap (λ (t : Bool). text_end t rest) (sym (same (eqb b 92))) ∙ m.1) in
                subst (λ (k : ℕ). IsTextEnd false (b ∷ rest) k) (sym m.2)
                (record { ends = cond-false (is_newline b) _ _ fail ∙ cond-false (eqb b 34) _ _ other ∙ behind.ends; some = omega arith; within = omega (arith, behind.within) })
          ]
    ]
  where
    same : (t : Bool) → (t && true) ≡ t
    same true = refl
    same false = refl
