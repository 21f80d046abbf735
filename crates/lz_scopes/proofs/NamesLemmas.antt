-- How a table follows its list: one more object, one less.
use Rattle.std.proofs.Common.{◌≡◌, ℕ, zero, suc, ◌+◌, ◌-◌, ◌<◌, ◌≤◌, ◌==◌, Bool, true, false, List, [], ◌∷◌, ◌++◌, length, slice_get, get_or, Result, Ok, Err, is_ok, OnOk, Option, Some, None, is_some, IsTrue, nat_eq, if◌then◌else◌, eq-eqb, refl, sym, ap, subst, ◌∙◌, append_assoc, append-nil, arith, inl, inr}
use Rattle.std.proofs.lemmas.List.{length-append}
use Rattle.std.proofs.lemmas.Bool.{cases_Bool, eqb-true}
use Rattle.indexmap.specs.IndexMap.{IndexMap, get}
use Rattle.lz_scopes.specs.declared.names.Entry.{Entry}
use Rattle.lz_scopes.specs.Names.{or, nearest}
use Rattle.lz_scopes.specs.Tables.{place_from, hidden, flat, IsTable}

or_if : {A : Type 0} (b : Bool) (x : A) (p q : Option A) → or (if b then Some x else p) q ≡ (if b then Some x else or p q)
or_if true x p q = refl
or_if false x p q = refl

pub place_push : (start : ℕ) (xs : List Entry) (e : Entry) (name : ℕ) → place_from start (xs ++ e ∷ []) name ≡ (if name == e.name then Some (start + length xs) else place_from start xs name)
place_push start [] e name = let same : start + 0 ≡ start = omega arith in rw same refl
place_push start (x ∷ xs) e name =
    let more : (start + 1) + length xs ≡ start + suc (length xs) = omega arith in
    rw (place_push (start + 1) xs e name, more) (or_if (name == e.name) (start + suc (length xs)) (place_from (start + 1) xs name) (if name == x.name then Some start else None))

pub hidden_push : (before xs : List Entry) (e : Entry) → hidden before (xs ++ e ∷ []) ≡ hidden before xs ++ place_from 0 (before ++ xs) e.name ∷ []
hidden_push before [] e = rw (append-nil before) refl
hidden_push before (x ∷ xs) e = rw (hidden_push (before ++ x ∷ []) xs e, append_assoc before (x ∷ []) xs) refl

nowhere_step : {A B : Type 0} (r : Option A) (q : Option B) (b : Bool) (v : A) (x : B) → (r ≡ None → q ≡ None) → or r (if b then Some v else None) ≡ None → or q (if b then Some x else None) ≡ None
nowhere_step None q true v x ih k = absurd cc
nowhere_step None q false v x ih k = rw (ih refl) refl
nowhere_step (Some p) q b v x ih k = absurd cc

pub nowhere : (start : ℕ) (xs : List Entry) (name : ℕ) → place_from start xs name ≡ None → nearest xs name ≡ None
nowhere start [] name h = refl
nowhere start (x ∷ xs) name h = nowhere_step (place_from (start + 1) xs name) (nearest xs name) (name == x.name) start x (nowhere (start + 1) xs name) h

some_at : {A : Type 0} (xs : List A) (i : ℕ) → i < length xs → (x : A) × (slice_get xs i ≡ Some x)
some_at [] i h = absurd (omega arith)
some_at (x ∷ xs) zero h = (x, refl)
some_at (x ∷ xs) (suc i) h = some_at xs i (omega arith)

pub record Found (start : ℕ) (xs : List Entry) (name place : ℕ) : Type 0 where
  pub low : start ≤ place
  pub high : place < start + length xs
  pub is : nearest xs name ≡ slice_get xs (place - start)

found_here : (start : ℕ) (xs : List Entry) (x : Entry) (q : Option Entry) (p place : ℕ) (b : Bool) → start + 1 ≤ p → p < (start + 1) + length xs → q ≡ slice_get xs (p - (start + 1)) → p ≡ place
    → or q (if b then Some x else None) ≡ slice_get (x ∷ xs) (place - start)
found_here start xs x q p place b low high is same =
    let at : (e : Entry) × (slice_get xs (p - (start + 1)) ≡ Some e) = some_at xs (p - (start + 1)) (omega arith) in
    let more : place - start ≡ suc (p - (start + 1)) = omega arith in
    rw (more, is, at.1) refl

found_step : (start : ℕ) (xs : List Entry) (x : Entry) (name place : ℕ) (r : Option ℕ) (b : Bool) → ((p : ℕ) → r ≡ Some p → Found (start + 1) xs name p) → (r ≡ None → nearest xs name ≡ None)
    → or r (if b then Some start else None) ≡ Some place → (start ≤ place) × (place < start + suc (length xs)) × (or (nearest xs name) (if b then Some x else None) ≡ slice_get (x ∷ xs) (place - start))
found_step start xs x name place (Some p) b ih no_one k =
    let f = ih p refl in
    let same : p ≡ place = cc in
    let low = f.low in
    let high = f.high in
    (omega arith, omega arith, found_here start xs x (nearest xs name) p place b low high f.is same)
found_step start xs x name place None true ih no_one k =
    let same : start ≡ place = cc in
    let zeroth : place - start ≡ 0 = omega arith in
    (omega arith, omega arith, rw (no_one refl, zeroth) refl)
found_step start xs x name place None false ih no_one k = absurd cc

pub found : (start : ℕ) (xs : List Entry) (name place : ℕ) → place_from start xs name ≡ Some place → Found start xs name place
found start [] name place h = absurd cc
found start (x ∷ xs) name place h =
    let f = found_step start xs x name place (place_from (start + 1) xs name) (name == x.name) (λ p e. found (start + 1) xs name p e) (nowhere (start + 1) xs name) h in
    record { low = f.0; high = f.1; is = f.2 }

snoc_parts : {A : Type 0} (xs ys : List A) (x y : A) → xs ++ x ∷ [] ≡ ys ++ y ∷ [] → (xs ≡ ys) × (x ≡ y)
snoc_parts [] [] x y h = (refl, cc)
snoc_parts [] (b ∷ []) x y h = absurd cc
snoc_parts [] (b ∷ c ∷ ys) x y h = absurd cc
snoc_parts (a ∷ []) [] x y h = absurd cc
snoc_parts (a ∷ c ∷ xs) [] x y h = absurd cc
snoc_parts (a ∷ xs) (b ∷ ys) x y h =
    let rest : xs ++ x ∷ [] ≡ ys ++ y ∷ [] = cc in
    let s = snoc_parts xs ys x y rest in
    let head : a ≡ b = cc in
    (rw (head, s.0) refl, s.1)

module _ {S : Type 0} (entries : List Entry) (hides : List (Option ℕ)) (places places' : IndexMap ℕ (Option ℕ) S) (e : Entry) where
  pub pushed : IsTable entries hides places → ((k : ℕ) → flat (get nat_eq places' k) ≡ (if k == e.name then Some (length entries) else flat (get nat_eq places k)))
      → IsTable (entries ++ e ∷ []) (hides ++ flat (get nat_eq places e.name) ∷ []) places'
  pushed table set = record {
    nearest_ones = λ k. set k ∙ (let start : 0 + length entries ≡ length entries = omega arith in rw (place_push 0 entries e k, table.nearest_ones k, start) refl);
    hidden_ones = rw (table.hidden_ones, hidden_push [] entries e, table.nearest_ones e.name) refl;
  }

  pub last_there : IsTable (entries ++ e ∷ []) hides places → IsTrue (is_some (flat (get nat_eq places e.name)))
  last_there table = rw (table.nearest_ones e.name, place_push 0 entries e e.name, eq-eqb e.name e.name refl) refl

  pub popped : (h : Option ℕ) → IsTable (entries ++ e ∷ []) (hides ++ h ∷ []) places → ((k : ℕ) → flat (get nat_eq places' k) ≡ (if k == e.name then h else flat (get nat_eq places k))) → IsTable entries hides places'
  popped h table set =
      let parts = snoc_parts hides (hidden [] entries) h (place_from 0 entries e.name) (table.hidden_ones ∙ hidden_push [] entries e) in
      record {
        nearest_ones = λ k. set k ∙ rw (parts.1, table.nearest_ones k, place_push 0 entries e k) (by k (k == e.name) refl);
        hidden_ones = parts.0;
      }
    where
      by : (k : ℕ) (b : Bool) → (k == e.name) ≡ b → (if b then place_from 0 entries e.name else (if b then Some (0 + length entries) else place_from 0 entries k)) ≡ place_from 0 entries k
      by k true same = rw (eqb-true k e.name same) refl
      by k false same = refl

pub get_found : {A : Type 0} (xs : List A) (i : ℕ) (d : A) → i < length xs → d ≡ get_or xs i d → slice_get xs i ≡ Some d
get_found [] i d h e = absurd (omega arith)
get_found (x ∷ xs) zero d h e = rw (sym e) refl
get_found (x ∷ xs) (suc i) d h e = get_found xs i d (omega arith) e

pub on_ok : {X E : Type 0} (r : Result X E) (P : Type 0) → is_ok r ≡ true → OnOk r P → P
on_ok (Ok x) P ok h = h
on_ok (Err e) P ok h = absurd cc
