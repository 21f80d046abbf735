-- Items while the next token begins one, read by a reader with as many turns as there are tokens.
use Rattle.std.proofs.Common.{◌≡◌, ℕ, zero, suc, ◌+◌, ◌<◌, ◌≤◌, Bool, true, false, List, [], ◌∷◌, ◌++◌, length, refl, sym, ap, subst, ◌∙◌, append_assoc, append-nil, arith, length-append}
use Rattle.std.specs.Prelude.{if◌then◌else◌}
use Rattle.lz_tree.specs.Languages.{◌⊙◌}
use Rattle.lz_expr.specs.Fronts.{Viable}
use Rattle.lz_expr.specs.Reading.{Outcome, gives, refused, Reader, and_then, ◌>>=◌, pure, starts, many, Ends}
use Rattle.lz_expr.proofs.ExactLemmas.{Found, Exact}
use Rattle.lz_expr.proofs.RowsLemmas.{Row}

module _ {K A : Type 0} (p : K → Bool) (la : A → List K → Type 0) (item : Reader K A) (a : Row la item (λ _ _. false))
    (heads : (x : A) (c : K) (u : List K) → la x (c ∷ u) → p c ≡ true)
    (begins : (c : K) → p c ≡ true → Viable la (c ∷ [])) where
  abbrev pub many_text : List A → List K → Type 0
  many_text [] ts = ts ≡ []
  many_text (x ∷ xs) ts = (la x ⊙ many_text xs) ts

  abbrev turns : ℕ → Reader K (List A)
  turns = many p item

  abbrev pub all : Reader K (List A)
  all ts = turns (length ts) ts

  abbrev pub all_goes : List A → K → Bool
  all_goes xs c = p c

  none_ends : (ts : List K) → Ends (λ (c : K). false) ts
  none_ends [] = tt
  none_ends (c ∷ ts) = refl

  begun : (x : A) (u rest : List K) → la x u → starts p (u ++ rest) ≡ true
  begun x [] rest m = absurd (a.full x m)
  begun x (c ∷ u) rest m = heads x c u m

  some_length : (x : A) (u : List K) → la x u → 0 < length u
  some_length x [] m = absurd (a.full x m)
  some_length x (c ∷ u) m = omega arith

  not_begun : (rest : List K) → Ends p rest → starts p rest ≡ false
  not_begun [] e = refl
  not_begun (c ∷ rest) e = e

  ends_begun : (ts : List K) → starts p ts ≡ false → Ends p ts
  ends_begun [] e = tt
  ends_begun (c ∷ ts) e = e

  run_complete : (n : ℕ) (xs : List A) (u rest : List K) → many_text xs u → Ends p rest → length u ≤ n → turns n (u ++ rest) ≡ gives xs rest
  unfolding many
  run_complete zero [] u rest m e h = rw m refl
  run_complete (suc n) [] u rest m e h = rw m (rw (not_begun rest e) refl)
  run_complete zero (x ∷ xs) w rest (u, v, same, m, k) e h =
      let long = some_length x u m in
      let total : length w ≡ length u + length v = ap length same ∙ length-append u v in absurd (omega arith)
  run_complete (suc n) (x ∷ xs) w rest (u, v, same, m, k) e h =
      let long = some_length x u m in
      let total : length w ≡ length u + length v = ap length same ∙ length-append u v in
      rw same (rw append_assoc (rw (begun x u (v ++ rest) m) (rw (a.exact.complete x u (v ++ rest) m (none_ends (v ++ rest))) (rw (run_complete n xs v rest k e (omega arith)) refl))))

  -- ---- what was read

  no_more : (ts : List K) → Ends p ts → (xs : List A) (left : List K) → gives [] ts ≡ gives xs left → Found many_text all_goes ts xs left
  no_more ts e xs left h =
      let left_is : ts ≡ left = cc in
      let xs_is : [] ≡ xs = cc in
      let found : Found many_text all_goes ts [] ts = record { read = []; same = refl; spells = refl; ends = e } in
      subst (λ (w : List K). Found many_text all_goes ts xs w) left_is (subst (λ (ys : List A). Found many_text all_goes ts ys ts) xs_is found)

  one_more : (ts : List K) (x : A) (mid : List K) → Found la (λ _ _. false) ts x mid → (o : Outcome K (List A)) → ((ys : List A) (left : List K) → o ≡ gives ys left → Found many_text all_goes mid ys left)
      → (xs : List A) (left : List K) → and_then o (λ ys. pure (x ∷ ys)) ≡ gives xs left → Found many_text all_goes ts xs left
  one_more ts x mid f (gives ys rest) again xs left h =
      let k = again ys rest refl in
      let left_is : rest ≡ left = cc in
      let xs_is : x ∷ ys ≡ xs = cc in
      let found : Found many_text all_goes ts (x ∷ ys) rest = record {
        read = f.read ++ k.read;
        same = f.same ∙ ap (λ (w : List K). f.read ++ w) k.same ∙ sym (append_assoc f.read k.read rest);
        spells = (f.read, k.read, refl, f.spells, k.spells);
        ends = k.ends;
      } in
      subst (λ (w : List K). Found many_text all_goes ts xs w) left_is (subst (λ (zs : List A). Found many_text all_goes ts zs rest) xs_is found)
  one_more ts x mid f (refused i) again xs left h = absurd cc

  shorter : (ts : List K) (x : A) (mid : List K) (n : ℕ) → Found la (λ _ _. false) ts x mid → length ts ≤ suc n → length mid ≤ n
  shorter ts x mid n f h =
      let long = some_length x f.read f.spells in
      let total : length ts ≡ length f.read + length mid = ap length f.same ∙ length-append f.read mid in omega arith

  item_found : (n : ℕ) → ((ts : List K) → length ts ≤ n → (ys : List A) (left : List K) → turns n ts ≡ gives ys left → Found many_text all_goes ts ys left)
      → (ts : List K) → length ts ≤ suc n → (o : Outcome K A) → item ts ≡ o → (xs : List A) (left : List K) → and_then o (λ x. turns n >>= (λ ys. pure (x ∷ ys))) ≡ gives xs left → Found many_text all_goes ts xs left
  item_found n again ts short (gives x mid) e xs left h =
      let f = a.exact.sound ts x mid e in
      one_more ts x mid f (turns n mid) (λ ys rest k. again mid (shorter ts x mid n f short) ys rest k) xs left h
  item_found n again ts short (refused i) e xs left h = absurd cc

  turn_found : (n : ℕ) → ((ts : List K) → length ts ≤ n → (ys : List A) (left : List K) → turns n ts ≡ gives ys left → Found many_text all_goes ts ys left)
      → (ts : List K) → length ts ≤ suc n → (q : Bool) → starts p ts ≡ q → (xs : List A) (left : List K) → (if q then (item >>= (λ x. turns n >>= (λ ys. pure (x ∷ ys)))) ts else gives [] ts) ≡ gives xs left
      → Found many_text all_goes ts xs left
  turn_found n again ts short true e xs left h = item_found n again ts short (item ts) refl xs left h
  turn_found n again ts short false e xs left h = no_more ts (ends_begun ts e) xs left h

  run_sound : (n : ℕ) (ts : List K) → length ts ≤ n → (xs : List A) (left : List K) → turns n ts ≡ gives xs left → Found many_text all_goes ts xs left
  unfolding many
  run_sound zero [] short xs left h = no_more [] tt xs left h
  run_sound zero (c ∷ ts) short xs left h = absurd (omega arith)
  run_sound (suc n) ts short xs left h = turn_found n (run_sound n) ts short (starts p ts) refl xs left h

  -- ---- what was refused

  record Stuck (ts : List K) (i : ℕ) : Type 0 where
    read : List K
    left : List K
    same : ts ≡ read ++ left
    count : i ≡ length left
    viable : Viable many_text read
    local : (c : K) (r s : List K) (m : ℕ) → left ≡ c ∷ r → length (read ++ c ∷ s) ≤ m → turns m (read ++ c ∷ s) ≡ refused (suc (length s))

  first_same : (ts read left : List K) (c : K) (r s : List K) → ts ≡ read ++ left → left ≡ c ∷ r → starts p (read ++ c ∷ s) ≡ starts p ts
  first_same ts [] left c r s same is = rw (same ∙ is) refl
  first_same ts (d ∷ read) left c r s same is = rw same refl

  by_turn : (m : ℕ) (read : List K) (c : K) (s : List K) → length (read ++ c ∷ s) ≤ m → (k : ℕ) × (m ≡ suc k) × (length (read ++ c ∷ s) ≤ suc k)
  by_turn zero [] c s h = absurd (omega arith)
  by_turn zero (d ∷ read) c s h = absurd (omega arith)
  by_turn (suc k) read c s h = (k, refl, h)

  stuck_rest : (ts : List K) → starts p ts ≡ true → (x : A) (mid : List K) → Found la (λ _ _. false) ts x mid → (i : ℕ) → Stuck mid i → Stuck ts i
  unfolding many
  stuck_rest ts q x mid f i k = record {
    read = f.read ++ k.read;
    left = k.left;
    same = f.same ∙ ap (λ (w : List K). f.read ++ w) k.same ∙ sym (append_assoc f.read k.read k.left);
    count = k.count;
    viable = (x ∷ k.viable.0, k.viable.1, (f.read, k.read ++ k.viable.1, append_assoc f.read k.read k.viable.1, f.spells, k.viable.2));
    local = λ c r s m is h.
        let t = by_turn m (f.read ++ k.read) c s h in
        let long = some_length x f.read f.spells in
        let total : length ((f.read ++ k.read) ++ c ∷ s) ≡ length f.read + length (k.read ++ c ∷ s) = ap length (append_assoc f.read k.read (c ∷ s)) ∙ length-append f.read (k.read ++ c ∷ s) in
        let h₂ = t.2 in
        rw t.1 (rw append_assoc (rw (begun x f.read (k.read ++ c ∷ s) f.spells) (rw (a.exact.complete x f.read (k.read ++ c ∷ s) f.spells (none_ends (k.read ++ c ∷ s)))
        (rw (k.local c r s t.0 is (omega arith)) refl))));
  }

  stuck_item : (n : ℕ) → ((ts : List K) (i : ℕ) → length ts ≤ n → turns n ts ≡ refused i → Stuck ts i) → (ts : List K) → length ts ≤ suc n → starts p ts ≡ true → (i : ℕ) (o : Outcome K A) → item ts ≡ o
      → and_then o (λ x. turns n >>= (λ ys. pure (x ∷ ys))) ≡ refused i → Stuck ts i
  unfolding many
  stuck_item n again ts short q i (refused j) e h =
      let f = a.exact.refuses ts j e in
      let j_is : j ≡ i = cc in
      record {
        read = f.read;
        left = f.left;
        same = f.same;
        count = sym j_is ∙ f.count;
        viable = (f.viable.0 ∷ [], f.viable.1, (f.read ++ f.viable.1, [], sym (append-nil (f.read ++ f.viable.1)), f.viable.2, refl));
        local = λ c r s m is h. let k = by_turn m f.read c s h in rw k.1 (rw (first_same ts f.read f.left c r s f.same is ∙ q) (rw (f.local c r s is) refl));
      }
  stuck_item n again ts short q i (gives x mid) e h =
      let f = a.exact.sound ts x mid e in
      stuck_rest ts q x mid f i (again mid i (shorter ts x mid n f short) (inner (turns n mid) h))
    where
      inner : (o : Outcome K (List A)) → and_then o (λ ys. pure (x ∷ ys)) ≡ refused i → o ≡ refused i
      inner (gives ys rest) h = absurd cc
      inner (refused j) h = cc

  stuck_turn : (n : ℕ) → ((ts : List K) (i : ℕ) → length ts ≤ n → turns n ts ≡ refused i → Stuck ts i) → (ts : List K) → length ts ≤ suc n → (q : Bool) → starts p ts ≡ q → (i : ℕ)
      → (if q then (item >>= (λ x. turns n >>= (λ ys. pure (x ∷ ys)))) ts else gives [] ts) ≡ refused i → Stuck ts i
  stuck_turn n again ts short true e i h = stuck_item n again ts short e i (item ts) refl h
  stuck_turn n again ts short false e i h = absurd cc

  run_refuses : (n : ℕ) (ts : List K) (i : ℕ) → length ts ≤ n → turns n ts ≡ refused i → Stuck ts i
  unfolding many
  run_refuses zero ts i short h = absurd cc
  run_refuses (suc n) ts i short h = stuck_turn n (run_refuses n) ts short (starts p ts) refl i h

  -- ---- what goes on: one more item

  with_last : (xs : List A) (x : A) (u v : List K) → many_text xs u → la x v → many_text (xs ++ x ∷ []) (u ++ v)
  with_last [] x u v m k = rw m (v, [], sym (append-nil v), k, refl)
  with_last (y ∷ xs) x w v (u₁, u₂, same, h, m) k = (u₁, u₂ ++ v, ap (λ (z : List K). z ++ v) same ∙ append_assoc u₁ u₂ v, h, with_last xs x u₂ v m k)

  all_on : (xs : List A) (u : List K) (c : K) → many_text xs u → p c ≡ true → Viable many_text (u ++ c ∷ [])
  all_on xs u c m e =
      let x = begins c e in
      (xs ++ x.0 ∷ [], x.1, (let P : List K → Type 0 = λ w. many_text (xs ++ x.0 ∷ []) w in subst P (sym (append_assoc u (c ∷ []) x.1)) (with_last xs x.0 u (c ∷ x.1) m x.2)))

  within : (u rest : List K) → length u ≤ length (u ++ rest)
  within u rest = let e = length-append u rest in omega arith

  pub exact_many : Exact many_text all all_goes
  exact_many = record {
    sound = λ ts t left h. run_sound (length ts) ts (omega arith) t left h;
    complete = λ t u rest m e. run_complete (length (u ++ rest)) t u rest m e (within u rest);
    refuses = λ ts n h. let k = run_refuses (length ts) ts n (omega arith) h in
        record { read = k.read; left = k.left; same = k.same; count = k.count; viable = k.viable; local = λ c r s is. k.local c r s (length (k.read ++ c ∷ s)) is (omega arith) };
    on = all_on;
  }
