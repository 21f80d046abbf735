-- Words moved up by a fixed number of places.
use Rattle.std.proofs.Common.{◌≡◌, ℕ, zero, suc, ◌+◌, ◌-◌, ◌*◌, ◌^◌, ◌%◌, ◌<◌, ◌≤◌, false, cond, List, [], ◌∷◌, ◌++◌, length, take, drop, refl, sym, ◌∙◌, ap, subst, arith, add-one}
use Rattle.std.proofs.Math.Nat.{add_comm, mul_comm}
use Rattle.std.proofs.lemmas.Nat.{mod-mul-add, pow-add, shl_below}
use Rattle.std.proofs.lemmas.List.{length-append, length-take-le}
use Rattle.std.proofs.lemmas.List.Elements.{All-append, All-take}
use Rattle.lz_cnf.specs.declared.clause.Lit.{Lit}
use Rattle.lz_gates.specs.Circuits.{Circuit, Assignment, value, IsLit, AreLits, Satisfies, Makes}
use Rattle.lz_gates.proofs.ExtendingLemmas.{makes_so, still}
use Rattle.lz_arith.specs.Bits.{word, copies, AreBits}
use Rattle.lz_arith.proofs.WordsLemmas.{word_append, word_lt, pow_twice, twice}
use Rattle.lz_arith.proofs.AddLemmas.{are_lits_more}

-- one more copy
pub copies_push : (n : ℕ) (lit : Lit) → copies n lit ++ lit ∷ [] ≡ copies (suc n) lit
copies_push zero lit = refl
copies_push (suc n) lit = ap (λ (xs : List Lit). lit ∷ xs) (copies_push n lit)

-- so many copies are so many
pub length-copies : (n : ℕ) (lit : Lit) → length (copies n lit) ≡ n
length-copies zero lit = refl
length-copies (suc n) lit = ap suc (length-copies n lit)

-- copies of a false literal are 0
pub word_copies : (a : Assignment) (n : ℕ) (lit : Lit) → value a lit ≡ false → word a (copies n lit) ≡ 0
unfolding word
word_copies a zero lit e = refl
word_copies a (suc n) lit e = rw (e, word_copies a n lit e) refl

-- copies of a literal of the circuit are literals of it
pub copies_in : (circuit : Circuit) (n : ℕ) (lit : Lit) → IsLit circuit lit → AreLits circuit (copies n lit)
copies_in circuit zero lit h k d lt = absurd (omega arith)
copies_in circuit (suc n) lit h zero d lt = h
copies_in circuit (suc n) lit h (suc k) d lt = copies_in circuit n lit h k d (omega arith)

-- two lists of literals of the circuit are one
pub append_in : (circuit : Circuit) (xs ys : List Lit) → AreLits circuit xs → AreLits circuit ys → AreLits circuit (xs ++ ys)
append_in circuit xs ys h k = All-append (IsLit circuit) xs ys h k

-- the first of them are literals of it
pub take_in : (circuit : Circuit) (n : ℕ) (xs : List Lit) → AreLits circuit xs → AreLits circuit (take n xs)
take_in circuit n xs h = All-take (IsLit circuit) n xs h

-- 0 adds nothing
zero_sum : (n : ℕ) → 0 + n ≡ n
zero_sum n = omega arith

-- the low bits, and the high bits
pub word_split : (a : Assignment) (n : ℕ) (xs : List Lit) → n ≤ length xs → word a (take n xs) + 2 ^ n * word a (drop n xs) ≡ word a xs
unfolding word
word_split a zero xs le = omega arith
word_split a (suc n) [] le = absurd (omega arith)
word_split a (suc n) (x ∷ xs) le =
    let e = word_split a n xs (omega arith) in
    let t = twice (2 ^ n) (word a (drop n xs)) in
    let p : 2 ^ suc n ≡ 2 ^ n * 2 = ap (λ (m : ℕ). 2 ^ m) (sym (add-one n)) ∙ pow_twice n in
    rw p (omega arith)

-- the low bits of a word are its number modulo a power of two
pub word_front : (a : Assignment) (n : ℕ) (xs : List Lit) → n ≤ length xs → word a (take n xs) ≡ word a xs % 2 ^ n
word_front a n xs le =
    let low : word a (take n xs) < 2 ^ n = subst (λ (m : ℕ). word a (take n xs) < 2 ^ m) (length-take-le n xs le) (word_lt a (take n xs)) in
    sym (ap (λ (m : ℕ). m % 2 ^ n) (sym (word_split a n xs le) ∙ add_comm (word a (take n xs)) (2 ^ n * word a (drop n xs)) ∙ ap (λ (m : ℕ). m + word a (take n xs)) (mul_comm (2 ^ n) (word a (drop n xs))))
    ∙ mod-mul-add (word a (drop n xs)) (2 ^ n) (word a (take n xs)) low)

-- a number times a power, by its high and its low part
scaled_sum : (q w low m k : ℕ) → low + m * q ≡ w → w * k ≡ q * (m * k) + k * low
scaled_sum q w low m k e = grind arith

-- moved up by k: n = m + k
scaled_mod : (q w low k m : ℕ) → low < 2 ^ m → low + 2 ^ m * q ≡ w → 2 ^ k * low ≡ (w * 2 ^ k) % 2 ^ (m + k)
scaled_mod q w low k m lt e =
    let p = pow-add 2 m k in
    let fits : 2 ^ k * low < 2 ^ (m + k) = omega (arith, shl_below low m k lt, mul_comm (2 ^ k) low) in
    sym (ap (λ (n : ℕ). n % 2 ^ (m + k)) (scaled_sum q w low (2 ^ m) (2 ^ k) e ∙ ap (λ (n : ℕ). q * n + 2 ^ k * low) (sym p)) ∙ mod-mul-add q (2 ^ (m + k)) (2 ^ k * low) fits)

-- a word moved up is its number times a power of two, modulo its width
pub word_moved : (a : Assignment) (off : Lit) (k : ℕ) (xs : List Lit) → value a off ≡ false → k ≤ length xs → word a (copies k off ++ take (length xs - k) xs) ≡ (word a xs * 2 ^ k) % 2 ^ length xs
word_moved a off k xs e le =
    let m : ℕ = length xs - k in
    let fits : m ≤ length xs = omega arith in
    let low : word a (take m xs) < 2 ^ m = subst (λ (n : ℕ). word a (take m xs) < 2 ^ n) (length-take-le m xs fits) (word_lt a (take m xs)) in
    let whole : m + k ≡ length xs = omega arith in
    word_append a (copies k off) (take m xs)
    ∙ ap (λ (n : ℕ). n + 2 ^ length (copies k off) * word a (take m xs)) (word_copies a k off e)
    ∙ zero_sum (2 ^ length (copies k off) * word a (take m xs))
    ∙ ap (λ (n : ℕ). 2 ^ n * word a (take m xs)) (length-copies k off)
    ∙ scaled_mod (word a (drop m xs)) (word a xs) (word a (take m xs)) k m low (word_split a m xs fits)
    ∙ ap (λ (n : ℕ). (word a xs * 2 ^ k) % 2 ^ n) whole

-- it keeps its width
pub length-moved : (off : Lit) (k : ℕ) (xs : List Lit) → k ≤ length xs → length (copies k off ++ take (length xs - k) xs) ≡ length xs
length-moved off k xs le = length-append (copies k off) (take (length xs - k) xs) ∙ (let p = length-copies k off in let q = length-take-le (length xs - k) xs (omega arith) in omega arith)

-- it has literals of the circuit
pub moved_in : (circuit : Circuit) (off : Lit) (k : ℕ) (xs : List Lit) → IsLit circuit off → AreLits circuit xs → AreLits circuit (copies k off ++ take (length xs - k) xs)
moved_in circuit off k xs h all = append_in circuit (copies k off) (take (length xs - k) xs) (copies_in circuit k off h) (take_in circuit (length xs - k) xs all)

-- a stage chooses between the word and the word moved
pub stage_makes : (old new : Circuit) (test off : Lit) (by n v c : ℕ) (bits moved r : List Lit)
    → ((a : Assignment) → Satisfies a old.clauses → value a off ≡ false) → by ≤ length bits → moved ≡ copies by off ++ take (length bits - by) bits → length bits ≡ n
    → Makes old new v c (λ a. word a r ≡ cond (value a test) (word a moved) (word a bits))
    → Makes old new v c (λ a. word a r ≡ cond (value a test) ((word a bits * 2 ^ by) % 2 ^ n) (word a bits))
stage_makes old new test off by n v c bits moved r off_false le is wide h =
    makes_so old new v v c c _ _ h (omega arith) (omega arith)
    (λ a s p. p ∙ ap (λ (m : ℕ). cond (value a test) m (word a bits))
    (ap (word a) is ∙ word_moved a off by bits (off_false a (still old new h.extends a s)) le ∙ ap (λ (m : ℕ). (word a bits * 2 ^ by) % 2 ^ m) wide))

-- a word moved up is a word of the circuit
pub moved_bits : (circuit : Circuit) (off : Lit) {k : ℕ} (xs : List Lit) {ys : List Lit} → IsLit circuit off → AreLits circuit xs → k ≤ length xs → ys ≡ copies k off ++ take (length xs - k) xs → AreBits circuit (length xs) ys
moved_bits circuit off {k} xs h all le is = record {
  length = ap (λ (zs : List Lit). length zs) is ∙ length-moved off k xs le;
  lits = subst (λ (zs : List Lit). AreLits circuit zs) (sym is) (moved_in circuit off k xs h all);
}

-- a word of a circuit is one of a larger circuit
pub bits_more : (old new : Circuit) (n : ℕ) (xs : List Lit) → old.variables ≤ new.variables → AreBits old n xs → AreBits new n xs
bits_more old new n xs le h = record { length = h.length; lits = are_lits_more old new xs le h.lits }

-- so under another name
pub bits_of : {circuit : Circuit} {n m : ℕ} {xs ys : List Lit} → n ≡ m → ys ≡ xs → AreBits circuit n xs → AreBits circuit m ys
bits_of {circuit} e f h = record {
  length = ap (λ (zs : List Lit). length zs) f ∙ h.length ∙ e;
  lits = subst (λ (zs : List Lit). AreLits circuit zs) (sym f) h.lits;
}
