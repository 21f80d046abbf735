-- One turn of each loop that makes nodes, and its end.
use Rattle.std.proofs.Common.{◌≡◌, ℕ, suc, ◌+◌, ◌-◌, ◌*◌, ◌≤◌, ◌<◌, List, refl, sym, ◌∙◌, subst, arith}
use Rattle.lz_ssa.specs.declared.decode.Decoder.{Decoder}
use Rattle.lz_ssa.specs.Construction.{Drawn, With, Compared, equals, compared_with, compare_from, read_turn, read_from, write_turn, write_from}

-- ---- comparisons

-- one comparison of those that are left
compare_step : (node number step more : ℕ) (compared : Compared)
    → compare_from node number step (suc more) compared ≡ compare_from node (number + step) step more (compared_with compared.tests (equals node number compared.drawn))
unfolding compare_from
compare_step node number step more compared = refl

-- one turn of the comparisons
pub compare_turn : (node step : ℕ) {count i : ℕ} (so_far : Compared) {all : Compared} {drawn : Drawn} {tests : List ℕ} → i < count
    → compare_from node (i * step) step (count - i) so_far ≡ all
    → drawn ≡ (compared_with so_far.tests (equals node (i * step) so_far.drawn)).drawn → tests ≡ (compared_with so_far.tests (equals node (i * step) so_far.drawn)).tests
    → compare_from node ((i + 1) * step) step (count - (i + 1)) (record { drawn = drawn; tests = tests }) ≡ all
compare_turn node step {count} {i} so_far {all} {drawn} {tests} lt old drawn_is tests_is =
    let one : count - i ≡ suc (count - (i + 1)) = omega arith in
    let next_number : i * step + step ≡ (i + 1) * step = grind arith in
    let one_more = compared_with so_far.tests (equals node (i * step) so_far.drawn) in
    let base : compare_from node ((i + 1) * step) step (count - (i + 1)) one_more ≡ all =
    subst (λ (k : ℕ). compare_from node k step (count - (i + 1)) one_more ≡ all) next_number
    (sym (compare_step node (i * step) step (count - (i + 1)) so_far) ∙ subst (λ (k : ℕ). compare_from node (i * step) step k so_far ≡ all) one old) in
    subst (λ (d : Drawn). compare_from node ((i + 1) * step) step (count - (i + 1)) (record { drawn = d; tests = tests }) ≡ all) (sym drawn_is)
    (subst (λ (t : List ℕ). compare_from node ((i + 1) * step) step (count - (i + 1)) (record { drawn = one_more.drawn; tests = t }) ≡ all) (sym tests_is) base)

-- behind the last comparison
pub compare_end : (node step : ℕ) {count : ℕ} (i : ℕ) {so_far all : Compared} → count ≤ i → compare_from node (i * step) step (count - i) so_far ≡ all → so_far ≡ all
unfolding compare_from
compare_end node step {count} i {so_far} {all} h old =
    let none : count - i ≡ 0 = omega arith in
    subst (λ (k : ℕ). compare_from node (i * step) step k so_far ≡ all) none old

-- ---- reads

-- one place of those that are left
read_step : (decoder : Decoder) (first place more : ℕ) (so_far : With) → read_from decoder first place (suc more) so_far ≡ read_from decoder first (suc place) more (read_turn decoder first place so_far)
unfolding read_from
read_step decoder first place more so_far = refl

-- one turn of a read
pub read_turns : (decoder : Decoder) (first : ℕ) {len place : ℕ} (so_far : With) {all : With} {drawn : Drawn} {node : ℕ} → place < len
    → read_from decoder first place (len - place) so_far ≡ all
    → drawn ≡ (read_turn decoder first place so_far).drawn → node ≡ (read_turn decoder first place so_far).node
    → read_from decoder first (place + 1) (len - (place + 1)) (record { drawn = drawn; node = node }) ≡ all
read_turns decoder first {len} {place} so_far {all} {drawn} {node} lt old drawn_is node_is =
    let one : len - place ≡ suc (len - (place + 1)) = omega arith in
    let next_place : suc place ≡ place + 1 = omega arith in
    let turn = read_turn decoder first place so_far in
    let base : read_from decoder first (place + 1) (len - (place + 1)) turn ≡ all =
    subst (λ (k : ℕ). read_from decoder first k (len - (place + 1)) turn ≡ all) next_place
    (sym (read_step decoder first place (len - (place + 1)) so_far) ∙ subst (λ (k : ℕ). read_from decoder first place k so_far ≡ all) one old) in
    subst (λ (d : Drawn). read_from decoder first (place + 1) (len - (place + 1)) (record { drawn = d; node = node }) ≡ all) (sym drawn_is)
    (subst (λ (n : ℕ). read_from decoder first (place + 1) (len - (place + 1)) (record { drawn = turn.drawn; node = n }) ≡ all) (sym node_is) base)

-- behind the last place of a read
pub read_ends : (decoder : Decoder) (first : ℕ) {len : ℕ} (place : ℕ) {so_far all : With} → len ≤ place → read_from decoder first place (len - place) so_far ≡ all → so_far ≡ all
unfolding read_from
read_ends decoder first {len} place {so_far} {all} h old =
    let none : len - place ≡ 0 = omega arith in
    subst (λ (k : ℕ). read_from decoder first place k so_far ≡ all) none old

-- ---- writes

-- one place of those that are left
write_step : (decoder : Decoder) (first guard value place more : ℕ) (so_far : Drawn)
    → write_from decoder first guard value place (suc more) so_far ≡ write_from decoder first guard value (suc place) more (write_turn decoder first guard value place so_far)
unfolding write_from
write_step decoder first guard value place more so_far = refl

-- one turn of a write
pub write_turns : (decoder : Decoder) (first guard value : ℕ) {len place : ℕ} (so_far : Drawn) {after all : Drawn} → place < len
    → write_from decoder first guard value place (len - place) so_far ≡ all → after ≡ write_turn decoder first guard value place so_far
    → write_from decoder first guard value (place + 1) (len - (place + 1)) after ≡ all
write_turns decoder first guard value {len} {place} so_far {all} lt old is =
    let one : len - place ≡ suc (len - (place + 1)) = omega arith in
    let next_place : suc place ≡ place + 1 = omega arith in
    rw is (subst (λ (k : ℕ). write_from decoder first guard value k (len - (place + 1)) (write_turn decoder first guard value place so_far) ≡ all) next_place
    (sym (write_step decoder first guard value place (len - (place + 1)) so_far) ∙ subst (λ (k : ℕ). write_from decoder first guard value place k so_far ≡ all) one old))

-- behind the last place of a write
pub write_ends : (decoder : Decoder) (first guard value : ℕ) {len : ℕ} (place : ℕ) {so_far all : Drawn} → len ≤ place → write_from decoder first guard value place (len - place) so_far ≡ all → so_far ≡ all
unfolding write_from
write_ends decoder first guard value {len} place {so_far} {all} h old =
    let none : len - place ≡ 0 = omega arith in
    subst (λ (k : ℕ). write_from decoder first guard value place k so_far ≡ all) none old
