-- Items up to a token that ends them, read by a reader with as many turns as there are tokens.
use Rattle.std.proofs.Common.{◌≡◌, ℕ, zero, suc, ◌+◌, ◌<◌, ◌≤◌, Bool, true, false, List, [], ◌∷◌, ◌++◌, length, refl, sym, ap, subst, ◌∙◌, append_assoc, arith, length-append}
use Rattle.std.specs.Prelude.{if◌then◌else◌}
use Rattle.lz_tree.specs.Languages.{◌⊙◌}
use Rattle.lz_expr.specs.Fronts.{Viable}
use Rattle.lz_expr.specs.Reading.{Outcome, gives, refused, Reader, and_then, ◌>>=◌, pure, starts, until, Ends}
use Rattle.lz_expr.proofs.ExactLemmas.{Found, Exact, ends_append}
use Rattle.lz_expr.proofs.RowsLemmas.{Row}

-- items one behind another, and what ends them
abbrev pub list_of : {K A B : Type 0} → (B → List K → Type 0) → (A → List K → Type 0) → List A → List K → Type 0
list_of {B = B} lb la [] ts = (b : B) × lb b ts
list_of lb la (x ∷ xs) ts = (la x ⊙ list_of lb la xs) ts

module _ {K A B : Type 0} (p : K → Bool) (lb : B → List K → Type 0) (stop : Reader K B) (la : A → List K → Type 0) (item : Reader K A) (ga : A → K → Bool)
    (rb : Row lb stop (λ _ _. false)) (ra : Row la item ga)
    (heads_b : (b : B) (c : K) (u : List K) → lb b (c ∷ u) → p c ≡ true)
    (heads_a : (x : A) (c : K) (u : List K) → la x (c ∷ u) → p c ≡ false)
    (apart_a : (x y : A) (c : K) (u : List K) → la y (c ∷ u) → ga x c ≡ false)
    (apart_b : (x : A) (b : B) (c : K) (u : List K) → lb b (c ∷ u) → ga x c ≡ false) where
  abbrev list_text : List A → List K → Type 0
  list_text = list_of lb la

  abbrev turns : ℕ → Reader K (List A)
  turns = until p stop item

  abbrev pub list : Reader K (List A)
  list ts = turns (length ts) ts

  none : List A → K → Bool
  none xs c = false

  ends : (xs : List A) (ts : List K) → Ends (none xs) ts
  unfolding none
  ends xs [] = tt
  ends xs (c ∷ ts) = refl

  stop_ends : (b : B) (ts : List K) → Ends (λ (c : K). false) ts
  stop_ends b [] = tt
  stop_ends b (c ∷ ts) = refl

  starts_b : (b : B) (u rest : List K) → lb b u → starts p (u ++ rest) ≡ true
  starts_b b [] rest m = absurd (rb.full b m)
  starts_b b (c ∷ u) rest m = heads_b b c u m

  starts_a : (x : A) (u rest : List K) → la x u → starts p (u ++ rest) ≡ false
  starts_a x [] rest m = absurd (ra.full x m)
  starts_a x (c ∷ u) rest m = heads_a x c u m

  ends_item : (x : A) (xs : List A) (v rest : List K) → list_text xs v → Ends (ga x) (v ++ rest)
  ends_item x [] [] rest m = absurd (rb.full m.0 m.1)
  ends_item x [] (c ∷ v) rest m = apart_b x m.0 c v m.1
  ends_item x (y ∷ xs) v rest (u, w, same, m, k) = go u w v same m
    where
      go : (u w v : List K) → v ≡ u ++ w → la y u → Ends (ga x) (v ++ rest)
      go [] w v same m = absurd (ra.full y m)
      go (c ∷ u) w v same m = let P : List K → Type 0 = λ z. Ends (ga x) (z ++ rest) in subst P (sym same) (apart_a x y c u m)

  some_length : (x : A) (u : List K) → la x u → 0 < length u
  some_length x [] m = absurd (ra.full x m)
  some_length x (c ∷ u) m = omega arith

  run_complete : (n : ℕ) (xs : List A) (u rest : List K) → list_text xs u → length (u ++ rest) ≤ n → turns n (u ++ rest) ≡ gives xs rest
  unfolding until
  run_complete zero [] u rest m h = rw (rb.exact.complete m.0 u rest m.1 (stop_ends m.0 rest)) refl
  run_complete (suc n) [] u rest m h = rw (starts_b m.0 u rest m.1) (rw (rb.exact.complete m.0 u rest m.1 (stop_ends m.0 rest)) refl)
  run_complete zero (x ∷ xs) w rest (u, v, same, m, k) h =
      let long = some_length x u m in
      let total : length (w ++ rest) ≡ length u + length (v ++ rest) = ap (λ (z : List K). length (z ++ rest)) same ∙ ap length (append_assoc u v rest) ∙ length-append u (v ++ rest) in absurd (omega arith)
  run_complete (suc n) (x ∷ xs) w rest (u, v, same, m, k) h =
      let long = some_length x u m in
      let total : length (w ++ rest) ≡ length u + length (v ++ rest) = ap (λ (z : List K). length (z ++ rest)) same ∙ ap length (append_assoc u v rest) ∙ length-append u (v ++ rest) in
      rw same (rw append_assoc (rw (starts_a x u (v ++ rest) m) (rw (ra.exact.complete x u (v ++ rest) m (ends_item x xs v rest k)) (rw (run_complete n xs v rest k (omega arith)) refl))))

  -- ---- what was read

  stopped : (ts : List K) (o : Outcome K B) → stop ts ≡ o → (xs : List A) (left : List K) → and_then o (λ b. pure []) ≡ gives xs left → Found list_text none ts xs left
  stopped ts (gives b mid) e xs left h =
      let f = rb.exact.sound ts b mid e in
      let left_is : mid ≡ left = cc in
      let xs_is : [] ≡ xs = cc in
      subst (λ (w : List K). Found list_text none ts xs w) left_is
      (subst (λ (ys : List A). Found list_text none ts ys mid) xs_is (record { read = f.read; same = f.same; spells = (b, f.spells); ends = ends [] mid }))
  stopped ts (refused i) e xs left h = absurd cc

  one_more : (ts : List K) (x : A) (mid : List K) → Found la ga ts x mid → (o : Outcome K (List A)) → ((ys : List A) (left : List K) → o ≡ gives ys left → Found list_text none mid ys left)
      → (xs : List A) (left : List K) → and_then o (λ ys. pure (x ∷ ys)) ≡ gives xs left → Found list_text none ts xs left
  one_more ts x mid f (gives ys rest) again xs left h =
      let k = again ys rest refl in
      let left_is : rest ≡ left = cc in
      let xs_is : x ∷ ys ≡ xs = cc in
      let found : Found list_text none ts (x ∷ ys) rest = record {
        read = f.read ++ k.read;
        same = f.same ∙ ap (λ (w : List K). f.read ++ w) k.same ∙ sym (append_assoc f.read k.read rest);
        spells = (f.read, k.read, refl, f.spells, k.spells);
        ends = ends (x ∷ ys) rest;
      } in
      subst (λ (w : List K). Found list_text none ts xs w) left_is (subst (λ (zs : List A). Found list_text none ts zs rest) xs_is found)
  one_more ts x mid f (refused i) again xs left h = absurd cc

  item_found : (n : ℕ) → ((ts : List K) (ys : List A) (left : List K) → turns n ts ≡ gives ys left → Found list_text none ts ys left)
      → (ts : List K) (o : Outcome K A) → item ts ≡ o → (xs : List A) (left : List K) → and_then o (λ x. turns n >>= (λ ys. pure (x ∷ ys))) ≡ gives xs left → Found list_text none ts xs left
  item_found n again ts (gives x mid) e xs left h = one_more ts x mid (ra.exact.sound ts x mid e) (turns n mid) (again mid) xs left h
  item_found n again ts (refused i) e xs left h = absurd cc

  turn_found : (n : ℕ) → ((ts : List K) (ys : List A) (left : List K) → turns n ts ≡ gives ys left → Found list_text none ts ys left)
      → (ts : List K) (q : Bool) → (xs : List A) (left : List K) → (if q then (stop >>= (λ b. pure [])) ts else (item >>= (λ x. turns n >>= (λ ys. pure (x ∷ ys)))) ts) ≡ gives xs left → Found list_text none ts xs left
  turn_found n again ts true xs left h = stopped ts (stop ts) refl xs left h
  turn_found n again ts false xs left h = item_found n again ts (item ts) refl xs left h

  run_sound : (n : ℕ) (ts : List K) (xs : List A) (left : List K) → turns n ts ≡ gives xs left → Found list_text none ts xs left
  unfolding until
  run_sound zero ts xs left h = stopped ts (stop ts) refl xs left h
  run_sound (suc n) ts xs left h = turn_found n (run_sound n) ts (starts p ts) xs left h

  -- ---- what was refused

  record Stuck (ts : List K) (i : ℕ) : Type 0 where
    read : List K
    left : List K
    same : ts ≡ read ++ left
    count : i ≡ length left
    viable : Viable list_text read
    local : (c : K) (r s : List K) (m : ℕ) → left ≡ c ∷ r → length (read ++ c ∷ s) ≤ m → turns m (read ++ c ∷ s) ≡ refused (suc (length s))

  first_same : (ts read left : List K) (c : K) (r s : List K) → ts ≡ read ++ left → left ≡ c ∷ r → starts p (read ++ c ∷ s) ≡ starts p ts
  first_same ts [] left c r s same is = rw (same ∙ is) refl
  first_same ts (d ∷ read) left c r s same is = rw same refl

  -- with a turn for each token there is one for the first
  by_turn : (m : ℕ) (read : List K) (c : K) (s : List K) → length (read ++ c ∷ s) ≤ m → (k : ℕ) × (m ≡ suc k) × (length (read ++ c ∷ s) ≤ suc k)
  by_turn zero [] c s h = absurd (omega arith)
  by_turn zero (d ∷ read) c s h = absurd (omega arith)
  by_turn (suc k) read c s h = (k, refl, h)

  stuck_stop : (ts : List K) → starts p ts ≡ true → (i : ℕ) (o : Outcome K B) → stop ts ≡ o → and_then o (λ b. pure {A = List A} []) ≡ refused i → Stuck ts i
  unfolding until
  stuck_stop ts q i (gives b mid) e h = absurd cc
  stuck_stop ts q i (refused j) e h =
      let f = rb.exact.refuses ts j e in
      let j_is : j ≡ i = cc in
      record {
        read = f.read;
        left = f.left;
        same = f.same;
        count = sym j_is ∙ f.count;
        viable = ([], f.viable.1, (f.viable.0, f.viable.2));
        local = λ c r s m is h. let k = by_turn m f.read c s h in rw k.1 (rw (first_same ts f.read f.left c r s f.same is ∙ q) (rw (f.local c r s is) refl));
      }

  stuck_rest : (ts : List K) → starts p ts ≡ false → (x : A) (mid : List K) → Found la ga ts x mid → (i : ℕ) → Stuck mid i → Stuck ts i
  unfolding until
  stuck_rest ts q x mid f i k = record {
    read = f.read ++ k.read;
    left = k.left;
    same = f.same ∙ ap (λ (w : List K). f.read ++ w) k.same ∙ sym (append_assoc f.read k.read k.left);
    count = k.count;
    viable = (x ∷ k.viable.0, k.viable.1, (f.read, k.read ++ k.viable.1, append_assoc f.read k.read k.viable.1, f.spells, k.viable.2));
    local = λ c r s m is h.
        let here : Ends (ga x) (k.read ++ k.left) = (let P : List K → Type 0 = λ w. Ends (ga x) w in subst P k.same f.ends) in
        let t = by_turn m (f.read ++ k.read) c s h in
        let long = some_length x f.read f.spells in
        let total : length ((f.read ++ k.read) ++ c ∷ s) ≡ length f.read + length (k.read ++ c ∷ s) = ap length (append_assoc f.read k.read (c ∷ s)) ∙ length-append f.read (k.read ++ c ∷ s) in
        let h₂ = t.2 in
        rw t.1 (rw append_assoc (rw (starts_a x f.read (k.read ++ c ∷ s) f.spells) (rw (ra.exact.complete x f.read (k.read ++ c ∷ s) f.spells (ends_append (ga x) k.read k.left c r s is here))
        (rw (k.local c r s t.0 is (omega arith)) refl))));
  }

  stuck_item : (n : ℕ) → ((ts : List K) (i : ℕ) → length ts ≤ n → turns n ts ≡ refused i → Stuck ts i) → (ts : List K) → length ts ≤ suc n → starts p ts ≡ false → (i : ℕ) (o : Outcome K A) → item ts ≡ o
      → and_then o (λ x. turns n >>= (λ ys. pure (x ∷ ys))) ≡ refused i → Stuck ts i
  unfolding until
  stuck_item n again ts short q i (refused j) e h =
      let f = ra.exact.refuses ts j e in
      let j_is : j ≡ i = cc in
      let b = rb.some in
      record {
        read = f.read;
        left = f.left;
        same = f.same;
        count = sym j_is ∙ f.count;
        viable = (f.viable.0 ∷ [], f.viable.1 ++ b.1, (f.read ++ f.viable.1, b.1, sym (append_assoc f.read f.viable.1 b.1), f.viable.2, (b.0, b.2)));
        local = λ c r s m is h. let k = by_turn m f.read c s h in rw k.1 (rw (first_same ts f.read f.left c r s f.same is ∙ q) (rw (f.local c r s is) refl));
      }
  stuck_item n again ts short q i (gives x mid) e h =
      let f = ra.exact.sound ts x mid e in
      let long = some_length x f.read f.spells in
      let total : length ts ≡ length f.read + length mid = ap length f.same ∙ length-append f.read mid in
      stuck_rest ts q x mid f i (again mid i (omega arith) (inner (turns n mid) h))
    where
      inner : (o : Outcome K (List A)) → and_then o (λ ys. pure (x ∷ ys)) ≡ refused i → o ≡ refused i
      inner (gives ys rest) h = absurd cc
      inner (refused j) h = cc

  stuck_turn : (n : ℕ) → ((ts : List K) (i : ℕ) → length ts ≤ n → turns n ts ≡ refused i → Stuck ts i) → (ts : List K) → length ts ≤ suc n → (q : Bool) → starts p ts ≡ q → (i : ℕ)
      → (if q then (stop >>= (λ b. pure [])) ts else (item >>= (λ x. turns n >>= (λ ys. pure (x ∷ ys)))) ts) ≡ refused i → Stuck ts i
  stuck_turn n again ts short true e i h = stuck_stop ts e i (stop ts) refl h
  stuck_turn n again ts short false e i h = stuck_item n again ts short e i (item ts) refl h

  stuck_empty : (i : ℕ) (o : Outcome K B) → stop [] ≡ o → and_then o (λ b. pure {A = List A} []) ≡ refused i → Stuck [] i
  stuck_empty i (gives b mid) e h = absurd cc
  stuck_empty i (refused j) e h =
      let f = rb.exact.refuses [] j e in
      let j_is : j ≡ i = cc in
      record {
        read = f.read;
        left = f.left;
        same = f.same;
        count = sym j_is ∙ f.count;
        viable = ([], f.viable.1, (f.viable.0, f.viable.2));
        local = λ c r s m is h. absurd (nothing f.read c r (f.same ∙ ap (λ (w : List K). f.read ++ w) is));
      }
    where
      nothing : (u : List K) (c : K) (r : List K) → [] ≡ u ++ c ∷ r → ⊥
      nothing [] c r h = cc
      nothing (d ∷ u) c r h = cc

  run_refuses : (n : ℕ) (ts : List K) (i : ℕ) → length ts ≤ n → turns n ts ≡ refused i → Stuck ts i
  unfolding until
  run_refuses zero [] i short h = stuck_empty i (stop []) refl h
  run_refuses zero (c ∷ ts) i short h = absurd (omega arith)
  run_refuses (suc n) ts i short h = stuck_turn n (run_refuses n) ts short (starts p ts) refl i h

  pub exact_list : Exact list_text list (λ _ _. false)
  unfolding none
  exact_list = record {
    sound = λ ts t left h. run_sound (length ts) ts t left h;
    complete = λ t u rest m e. run_complete (length (u ++ rest)) t u rest m (omega arith);
    refuses = λ ts n h. let k = run_refuses (length ts) ts n (omega arith) h in
        record { read = k.read; left = k.left; same = k.same; count = k.count; viable = k.viable; local = λ c r s is. k.local c r s (length (k.read ++ c ∷ s)) is (omega arith) };
    on = λ t u c m e. absurd cc;
  }

  list_full : (xs : List A) → list_text xs [] → ⊥
  list_full [] m = rb.full m.0 m.1
  list_full (x ∷ xs) (u, v, same, m, k) = no_text u v same m
    where
      no_text : (u v : List K) → [] ≡ u ++ v → la x u → ⊥
      no_text [] v same m = ra.full x m
      no_text (c ∷ u) v same m = absurd cc

  -- the list is a row, as what ends it is
  pub row_list : Row list_text list (λ _ _. false)
  row_list = record { exact = exact_list; some = ([], rb.some.1, (rb.some.0, rb.some.2)); full = list_full }

  -- the first token of a list can't continue an item before it
  pub list_apart : (x : A) (xs : List A) (c : K) (s : List K) → list_text xs (c ∷ s) → ga x c ≡ false
  list_apart x xs c s m = ends_item x xs (c ∷ s) [] m
