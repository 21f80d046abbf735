-- One turn of the loop over a thread's code.
use Rattle.std.proofs.Common.{◌≡◌, ℕ, suc, ◌+◌, ◌-◌, ◌≤◌, ◌<◌, List, [], ◌∷◌, ◌++◌, length, drop, take, map, get_or, refl, sym, ◌∙◌, ap, subst, arith}
use Rattle.std.proofs.lemmas.List.{append_assoc, drop_more, take_rest, append-nil, drop_all}
use Rattle.lz_lazy.specs.Encoding.{whole, saved_place, flag_place, runs_next, always, flagged, body, following, encoded}
use Rattle.lz_flat.specs.Programs.{MarkedInstruction, Statement, sets, instruction, marked}
use Rattle.lz_flat.specs.declared.program.Marked.{Marked}

-- the code of a thread begins with the three statements of its first instruction
encoded_step : (n t l : ℕ) (first : MarkedInstruction) (rest : List MarkedInstruction)
    → encoded n t l (first ∷ rest) ≡ (body n first.instr ∷ flagged n (sets (whole (saved_place n t)) (following l first.instr)) ∷ always (sets (whole (flag_place n)) (runs_next n t (suc l) rest)) ∷ []) ++ encoded n t (suc l) rest
unfolding encoded
encoded_step n t l first rest = refl

-- the three statements of an instruction of the code
abbrev three : ℕ → ℕ → ℕ → Marked → List Marked → List Statement
three n t l first rest =
    body n (instruction first.instr) ∷ flagged n (sets (whole (saved_place n t)) (following l (instruction first.instr)))
    ∷ always (sets (whole (flag_place n)) (runs_next n t (suc l) (map marked rest))) ∷ []

-- a turn that adds the three statements of the next instruction keeps what is left
pub one_turn : (n t : ℕ) {l : ℕ} (code : List Marked) {first : Marked} (before : List Statement) {after all : List Statement} → l < length code → first ≡ get_or code l first
    → before ++ encoded n t l (map marked (drop l code)) ≡ all
    → after ≡ before ++ body n (instruction first.instr) ∷ flagged n (sets (whole (saved_place n t)) (following l (instruction first.instr)))
    ∷ always (sets (whole (flag_place n)) (runs_next n t (suc l) (map marked (take (length code - (l + 1)) (drop (l + 1) code))))) ∷ []
    → after ++ encoded n t (l + 1) (map marked (drop (l + 1) code)) ≡ all
one_turn n t {l} code {first} before {after} {all} lt at old new =
    let left = drop (l + 1) code in
    let more : drop l code ≡ first ∷ left = drop_more code l first lt ∙ ap (λ (x : Marked). x ∷ left) (sym at) in
    let rest : take (length code - (l + 1)) left ≡ left = take_rest code (l + 1) in
    let next : suc l ≡ l + 1 = omega arith in
    let now : after ≡ before ++ three n t l first left =
    subst (λ (part : List Marked). after ≡ before ++ three n t l first part) rest new in
    let whole_old : before ++ encoded n t l (map marked (first ∷ left)) ≡ all = subst (λ (part : List Marked). before ++ encoded n t l (map marked part) ≡ all) more old in
    let apart : before ++ (three n t l first left ++ encoded n t (suc l) (map marked left)) ≡ all =
    ap (λ (x : List Statement). before ++ x) (sym (encoded_step n t l (marked first) (map marked left))) ∙ whole_old in
    let behind : (before ++ three n t l first left) ++ encoded n t (suc l) (map marked left) ≡ all =
    append_assoc before (three n t l first left) (encoded n t (suc l) (map marked left)) ∙ apart in
    subst (λ (k : ℕ). after ++ encoded n t k (map marked left) ≡ all) next
    (subst (λ (x : List Statement). x ++ encoded n t (suc l) (map marked left) ≡ all) (sym now) behind)

-- at the end nothing is left
pub no_more : (n t : ℕ) {l : ℕ} (code : List Marked) {before all : List Statement} → length code ≤ l
    → before ++ encoded n t l (map marked (drop l code)) ≡ all → before ≡ all
unfolding encoded
no_more n t {l} code {before} {all} h old =
    let none : drop l code ≡ [] = drop_all l code h in
    sym (append-nil before) ∙ subst (λ (part : List Marked). before ++ encoded n t l (map marked part) ≡ all) none old
