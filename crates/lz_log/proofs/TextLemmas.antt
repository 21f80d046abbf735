-- A text says one formula and one log, and none of its lines is bad.
use Rattle.std.proofs.Common.{◌≡◌, ℕ, suc, ◌+◌, ◌<◌, ◌≤◌, List, [], ◌∷◌, ◌++◌, length, drop, refl, sym, ap, subst, ◌∙◌, append_assoc, arith, inl, inr, lit≤}
use Rattle.std.specs.Prelude.{codes, Result, Ok, Err, MatchResult}
use Rattle.lz_log.specs.declared.proof_reading.ProofError.{ProofError}
use Rattle.lz_log.specs.declared.proof_reading.ProofError.TheVariants as errors
use Rattle.std.specs.Fmt.{decimal}
use Rattle.std.specs.List.{All, flat_map}
use Rattle.std.proofs.lemmas.List.{append_cancel_left, append-nil, length-append}
use Rattle.std.proofs.lemmas.List.Elements.{All-head, All-tail, All-cons, All-nil, All-weaker}
use Rattle.lz_cnf.specs.declared.clause.Lit.{Lit}
use Rattle.lz_cnf.specs.declared.clause.Cnf.{Cnf}
use Rattle.lz_log.specs.declared.log.LogStep.{LogStep}
use Rattle.lz_log.specs.ProofText.{clause_text, hints_text, clause_line, step_line, header_line}
use Rattle.lz_log.specs.ProofReading.{variable_limit, IsWithin, NameKnown, MayFollow, AreInOrder, IsProofText, HasHeader, LacksClause, LacksStep, EndsInClauses, EndsInSteps, IsFirstBadLine}
use Rattle.lz_log.specs.Pieces.{number_cap, HasNumber}
use Rattle.lz_log.specs.Lines.{HasLiterals, HasHints, IsAt, ReadsBack}
use Rattle.lz_log.proofs.NumberLemmas.{one_number, decimal_number}
use Rattle.lz_log.proofs.LineLemmas.{literals_once, hints_once, five, IsHint}

-- the text of a line shows what it says and where it ends
record IsLineText {X : Type 0} (line : X → List ℕ) (P : X → Type 0) : Type 0 where
  same : (x y : X) (behind rest : List ℕ) → P x → P y → line x ++ behind ≡ line y ++ rest → (x ≡ y) × (behind ≡ rest)
  some : (x : X) → 0 < length (line x)

cons_same : {X : Type 0} (d w : X) (ds ws more : List X) → d ≡ w → ws ≡ ds ++ more → w ∷ ws ≡ d ∷ (ds ++ more)
cons_same d w ds ws more e f = rw (e, f) refl

-- behind some lines the others go on, where they are no more
lines_lead : {X : Type 0} (line : X → List ℕ) (P : X → Type 0) → IsLineText line P → (done whole : List X) (left rest : List ℕ) → All P done → All P whole → length done ≤ length whole
    → flat_map line done ++ left ≡ flat_map line whole ++ rest → (more : List X) × (whole ≡ done ++ more) × (left ≡ flat_map line more ++ rest)
lines_lead line P is [] whole left rest hd hw le e = (whole, refl, e)
lines_lead line P is (d ∷ ds) [] left rest hd hw le e = absurd (omega arith)
lines_lead line P is (d ∷ ds) (w ∷ ws) left rest hd hw le e =
    let a : line d ++ (flat_map line ds ++ left) ≡ line w ++ (flat_map line ws ++ rest) =
    sym (append_assoc (line d) (flat_map line ds) left) ∙ e ∙ append_assoc (line w) (flat_map line ws) rest in
    let first = is.same d w (flat_map line ds ++ left) (flat_map line ws ++ rest) (All-head P d ds hd) (All-head P w ws hw) a in
    let m = lines_lead line P is ds ws left rest (All-tail P d ds hd) (All-tail P w ws hw) (omega arith) first.1 in
    (m.0, cons_same d w ds ws m.0 first.0 m.1, m.2)

-- behind some lines the others go on, where nothing follows them
lines_lead_all : {X : Type 0} (line : X → List ℕ) (P : X → Type 0) → IsLineText line P → (done whole : List X) (left : List ℕ) → All P done → All P whole
    → flat_map line done ++ left ≡ flat_map line whole → (more : List X) × (whole ≡ done ++ more) × (left ≡ flat_map line more)
lines_lead_all line P is [] whole left hd hw e = (whole, refl, e)
lines_lead_all line P is (d ∷ ds) [] left hd hw e =
    absurd (let some = is.some d in let len = ap (λ (t : List ℕ). length t) e in omega (arith, length-append (line d ++ flat_map line ds) left, length-append (line d) (flat_map line ds)))
lines_lead_all line P is (d ∷ ds) (w ∷ ws) left hd hw e =
    let a : line d ++ (flat_map line ds ++ left) ≡ line w ++ flat_map line ws = sym (append_assoc (line d) (flat_map line ds) left) ∙ e in
    let first = is.same d w (flat_map line ds ++ left) (flat_map line ws) (All-head P d ds hd) (All-head P w ws hw) a in
    let m = lines_lead_all line P is ds ws left (All-tail P d ds hd) (All-tail P w ws hw) first.1 in
    (m.0, cons_same d w ds ws m.0 first.0 m.1, m.2)

lines_long : {X : Type 0} (line : X → List ℕ) (P : X → Type 0) → IsLineText line P → (xs : List X) → length xs ≤ length (flat_map line xs)
lines_long line P is [] = lit≤ tt
lines_long line P is (x ∷ xs) = let some = is.some x in let more = lines_long line P is xs in omega (arith, length-append (line x) (flat_map line xs))

-- ---- the lines of clauses

clause_is_line : (variables : ℕ) → variables ≤ variable_limit → IsLineText clause_line (IsWithin variables)
clause_is_line variables small = record {
  same = λ x y behind rest hx hy e.
      let a : HasLiterals (clause_line x ++ behind) variables x (10 ∷ behind) = record { within = hx; text = append_assoc (clause_text x) (codes "\n") behind } in
      let b : HasLiterals (clause_line x ++ behind) variables y (10 ∷ rest) = record { within = hy; text = e ∙ append_assoc (clause_text y) (codes "\n") rest } in
      let one = literals_once (clause_line x ++ behind) variables x y (10 ∷ behind) (10 ∷ rest) small a b in
      (one.0, ap (λ (t : List ℕ). drop 1 t) one.1);
  some = λ x. omega (arith, length-append (clause_text x) (codes "\n"));
}

-- ---- the lines of steps

same_step : (a b : LogStep) → a.clause ≡ b.clause → a.hints ≡ b.hints → a ≡ b
same_step a b c h = rw (c, h) refl

step_is_line : (variables known : ℕ) → variables ≤ variable_limit → known < number_cap → IsLineText step_line (MayFollow variables known)
step_is_line variables known small fits = record {
  same = λ x y behind rest hx hy e.
      let whole : codes "l " ++ (clause_text x.clause ++ 32 ∷ (hints_text x.hints ++ 10 ∷ behind)) ≡ codes "l " ++ (clause_text y.clause ++ 32 ∷ (hints_text y.hints ++ 10 ∷ rest)) =
      sym (five (codes "l ") (clause_text x.clause) (codes " ") (hints_text x.hints) (codes "\n") behind) ∙ e ∙ five (codes "l ") (clause_text y.clause) (codes " ") (hints_text y.hints) (codes "\n") rest in
      let mid = clause_text x.clause ++ 32 ∷ (hints_text x.hints ++ 10 ∷ behind) in
      let at : mid ≡ clause_text y.clause ++ 32 ∷ (hints_text y.hints ++ 10 ∷ rest) = append_cancel_left (codes "l ") _ _ whole in
      let a : HasLiterals mid variables x.clause (32 ∷ (hints_text x.hints ++ 10 ∷ behind)) = record { within = hx.clause; text = refl } in
      let b : HasLiterals mid variables y.clause (32 ∷ (hints_text y.hints ++ 10 ∷ rest)) = record { within = hy.clause; text = at } in
      let clauses = literals_once mid variables x.clause y.clause (32 ∷ (hints_text x.hints ++ 10 ∷ behind)) (32 ∷ (hints_text y.hints ++ 10 ∷ rest)) small a b in
      let last = hints_text x.hints ++ 10 ∷ behind in
      let f : HasHints last known x.hints (10 ∷ behind) = record { known_ = hx.hints; text = refl } in
      let g : HasHints last known y.hints (10 ∷ rest) = record { known_ = hy.hints; text = ap (λ (t : List ℕ). drop 1 t) clauses.1 } in
      let hints = hints_once last known x.hints y.hints (10 ∷ behind) (10 ∷ rest) fits f g in
      (same_step x y clauses.0 hints.0, ap (λ (t : List ℕ). drop 1 t) hints.1);
  some = λ x. omega (arith, length-append (codes "l " ++ clause_text x.clause ++ codes " " ++ hints_text x.hints) (codes "\n"));
}

hints_up_to : (known more : ℕ) (hints : List ℕ) → known ≤ more → NameKnown known hints → NameKnown more hints
hints_up_to known more hints le h = All-weaker (IsHint known) (IsHint more) (λ n b. (b.0, let t = b.1 in omega arith)) hints h

-- each step in order may stand behind as many clauses as there are
all_follow : (variables known most : ℕ) (log : List LogStep) → known + length log ≤ most → AreInOrder variables known log → All (MayFollow variables most) log
all_follow variables known most [] le h = All-nil (MayFollow variables most)
all_follow variables known most (step ∷ log) le h =
    All-cons (MayFollow variables most) step log record { clause = h.0.clause; hints = hints_up_to known most step.hints (omega arith) h.0.hints } (all_follow variables (suc known) most log (omega arith) h.1)

-- the step behind others in order
next_follows : (variables known : ℕ) (log : List LogStep) (step : LogStep) (others : List LogStep) → AreInOrder variables known (log ++ step ∷ others) → MayFollow variables (known + length log) step
next_follows variables known [] step others h = subst (λ k. MayFollow variables k step) (omega arith) h.0
next_follows variables known (first ∷ log) step others h = subst (λ k. MayFollow variables k step) (omega arith) (next_follows variables (suc known) log step others h.1)

-- ---- the first line

header_once : (bytes : List ℕ) (v w c d : ℕ) (r s : List ℕ) → HasHeader bytes v c r → HasHeader bytes w d s → (v ≡ w) × (c ≡ d) × (r ≡ s)
header_once bytes v w c d r s a b =
    let whole : codes "p cnf " ++ (decimal v ++ 32 ∷ (a.digits ++ 10 ∷ r)) ≡ codes "p cnf " ++ (decimal w ++ 32 ∷ (b.digits ++ 10 ∷ s)) =
    sym (five (codes "p cnf ") (decimal v) (codes " ") a.digits (codes "\n") r) ∙ sym a.text ∙ b.text ∙ five (codes "p cnf ") (decimal w) (codes " ") b.digits (codes "\n") s in
    let mid = decimal v ++ 32 ∷ (a.digits ++ 10 ∷ r) in
    let at : mid ≡ decimal w ++ 32 ∷ (b.digits ++ 10 ∷ s) = append_cancel_left (codes "p cnf ") _ _ whole in
    let first : HasNumber mid (decimal v) v (32 ∷ (a.digits ++ 10 ∷ r)) = record { number_ = decimal_number v (let l = a.limit in omega arith); stops = lit≤ tt; text = refl } in
    let second : HasNumber mid (decimal w) w (32 ∷ (b.digits ++ 10 ∷ s)) = record { number_ = decimal_number w (let l = b.limit in omega arith); stops = lit≤ tt; text = at } in
    let one = one_number mid (decimal v) (decimal w) v w (32 ∷ (a.digits ++ 10 ∷ r)) (32 ∷ (b.digits ++ 10 ∷ s)) first second in
    let last = a.digits ++ 10 ∷ r in
    let third : HasNumber last a.digits c (10 ∷ r) = record { number_ = a.number; stops = lit≤ tt; text = refl } in
    let fourth : HasNumber last b.digits d (10 ∷ s) = record { number_ = b.number; stops = lit≤ tt; text = ap (λ (t : List ℕ). drop 1 t) one.1 } in
    let two = one_number last a.digits b.digits c d (10 ∷ r) (10 ∷ s) third fourth in
    (one.2, two.2, ap (λ (t : List ℕ). drop 1 t) two.1)

-- ---- the whole text

behind_header : Cnf → List LogStep → List ℕ
behind_header formula log = flat_map clause_line formula.clauses ++ flat_map step_line log

text_length : (bytes : List ℕ) (formula : Cnf) (log : List LogStep) → IsProofText bytes formula log → length formula.clauses + length (flat_map step_line log) ≤ length bytes
text_length bytes formula log h =
    let head = header_line formula in
    let lines = flat_map clause_line formula.clauses in
    let steps = flat_map step_line log in
    let e : length bytes ≡ length (head ++ lines ++ steps) = ap (λ (t : List ℕ). length t) h.text in
    let a = lines_long clause_line (IsWithin formula.variables) (clause_is_line formula.variables h.told.limit) formula.clauses in
    omega (arith, length-append (head ++ lines) steps, length-append head lines)

steps_long : (variables : ℕ) (log : List LogStep) → variables ≤ variable_limit → length log ≤ length (flat_map step_line log)
steps_long variables log small = lines_long step_line (MayFollow variables 0) (step_is_line variables 0 small (lit≤ tt)) log

text_header : (bytes : List ℕ) (formula : Cnf) (log : List LogStep) → length bytes < number_cap → IsProofText bytes formula log → HasHeader bytes formula.variables (length formula.clauses) (behind_header formula log)
unfolding behind_header
text_header bytes formula log few h = record {
  digits = decimal (length formula.clauses);
  number = decimal_number (length formula.clauses) (let t = text_length bytes formula log h in omega arith);
  limit = h.told.limit;
  text = h.text ∙ append_assoc (header_line formula) (flat_map clause_line formula.clauses) (flat_map step_line log);
}

nothing_more : {X : Type 0} (xs whole more : List X) → whole ≡ xs ++ more → length whole ≡ length xs → more ≡ []
nothing_more xs whole [] e len = refl
nothing_more xs whole (m ∷ ms) e len = absurd (let k = ap (λ l. length l) e in omega (arith, length-append xs (m ∷ ms)))

same_formula : (f g : Cnf) → f.variables ≡ g.variables → f.clauses ≡ g.clauses → f ≡ g
same_formula f g v c = rw (v, c) refl

no_lines : (more : List LogStep) → [] ≡ flat_map step_line more → more ≡ []
no_lines [] e = refl
no_lines (m ∷ ms) e =
    absurd (let k = ap (λ (t : List ℕ). length t) e in omega (arith, length-append (step_line m) (flat_map step_line ms), length-append (codes "l " ++ clause_text m.clause ++ codes " " ++ hints_text m.hints) (codes "\n")))

-- a text says one formula and one log
pub one_text : (bytes : List ℕ) (f g : Cnf) (l m : List LogStep) → length bytes < number_cap → IsProofText bytes f l → IsProofText bytes g m → (f ≡ g) × (l ≡ m)
unfolding behind_header
one_text bytes f g l m few a b =
    let head = header_once bytes f.variables g.variables (length f.clauses) (length g.clauses) (behind_header f l) (behind_header g m) (text_header bytes f l few a) (text_header bytes g m few b) in
    let g_within : All (IsWithin f.variables) g.clauses = rw head.0 b.told.within in
    let lead = lines_lead clause_line (IsWithin f.variables) (clause_is_line f.variables a.told.limit) f.clauses g.clauses (flat_map step_line l) (flat_map step_line m) a.told.within g_within (omega (arith, head.1)) head.2 in
    let none = nothing_more f.clauses g.clauses lead.0 lead.1 (sym head.1) in
    let clauses : f.clauses ≡ g.clauses = sym (lead.1 ∙ ap (λ t. f.clauses ++ t) none ∙ append-nil f.clauses) in
    let steps : flat_map step_line l ≡ flat_map step_line m = lead.2 ∙ ap (λ t. flat_map clause_line t ++ flat_map step_line m) none in
    let f_long : length f.clauses + length l ≤ length bytes = omega (arith, text_length bytes f l a, steps_long f.variables l a.told.limit) in
    let g_long : length g.clauses + length m ≤ length bytes = omega (arith, text_length bytes g m b, steps_long g.variables m b.told.limit) in
    let most = length bytes in
    let m_order : AreInOrder f.variables (length f.clauses) m = rw (head.0, head.1) b.told.in_order in
    let is = step_is_line f.variables most a.told.limit few in
    let rest = lines_lead_all step_line (MayFollow f.variables most) is l m [] (all_follow f.variables (length f.clauses) most l f_long a.told.in_order)
    (all_follow f.variables (length f.clauses) most m (omega (arith, head.1)) m_order) (append-nil (flat_map step_line l) ∙ steps) in
    let no_more = no_lines rest.0 rest.2 in
    (same_formula f g head.0 clauses, sym (rest.1 ∙ ap (λ t. l ++ t) no_more ∙ append-nil l))

clauses_go_on : (whole clauses more : List (List Lit)) (variables : ℕ) (rest behind : List ℕ) → All (IsWithin variables) whole → whole ≡ clauses ++ more → length clauses < length whole → rest ≡ flat_map clause_line more ++ behind → LacksClause rest variables → ⊥
clauses_go_on whole clauses [] variables rest behind within e fewer t lacks = absurd (let k = ap (λ l. length l) e in omega (arith, length-append clauses []))
clauses_go_on whole clauses (m ∷ ms) variables rest behind within e fewer t lacks =
    lacks m (flat_map clause_line ms ++ behind) record {
      within = All-cons (IsWithin variables) m [] (All-head (IsWithin variables) m ms (All-behind clauses (m ∷ ms) (rw (← e) within))) (All-nil (IsWithin variables));
      text = t ∙ append_assoc (clause_line m) (flat_map clause_line ms) behind ∙ ap (λ (u : List ℕ). u ++ (flat_map clause_line ms ++ behind)) (sym (append-nil (clause_line m)));
    }
  where
    All-behind : (xs ys : List (List Lit)) → All (IsWithin variables) (xs ++ ys) → All (IsWithin variables) ys
    All-behind [] ys h = h
    All-behind (x ∷ xs) ys h = All-behind xs ys (All-tail (IsWithin variables) x (xs ++ ys) h)

steps_go_on : (whole log more : List LogStep) (variables known : ℕ) (rest : List ℕ) → AreInOrder variables known whole → whole ≡ log ++ more → rest ≡ flat_map step_line more → (rest ≡ [] → ⊥) → LacksStep rest variables (known + length log) → ⊥
steps_go_on whole log [] variables known rest order e t left lacks = left t
steps_go_on whole log (m ∷ ms) variables known rest order e t left lacks =
    lacks m (flat_map step_line ms) record {
      in_order = (next_follows variables known log m ms (rw e at order), tt);
      text = t ∙ ap (λ (u : List ℕ). u ++ flat_map step_line ms) (sym (append-nil (step_line m)));
    }

-- no line of a text is bad
pub no_bad_line : (bytes : List ℕ) (f : Cnf) (l : List LogStep) (line : ℕ) → length bytes < number_cap → IsProofText bytes f l → IsFirstBadLine bytes line → ⊥
unfolding behind_header
no_bad_line bytes f l line few a bad = elim bad [
  | inl h ↦ h.0 f.variables (length f.clauses) (behind_header f l) (text_header bytes f l few a)
  | inr rest ↦ elim rest [
    | inl h ↦ bad_clause h
    | inr h ↦ bad_step h
  ]
]
  where
    bad_clause : EndsInClauses bytes line → ⊥
    bad_clause h =
        let head = header_once bytes f.variables h.variables (length f.clauses) h.count (behind_header f l) h.behind (text_header bytes f l few a) h.header in
        let within : All (IsWithin f.variables) h.clauses = rw head.0 h.front.within in
        let lacks : LacksClause h.rest f.variables = rw head.0 h.lacks in
        let fewer = h.fewer in
        let lead = lines_lead clause_line (IsWithin f.variables) (clause_is_line f.variables a.told.limit) h.clauses f.clauses h.rest (flat_map step_line l) within a.told.within (omega (arith, head.1)) (sym h.front.text ∙ sym head.2) in
        clauses_go_on f.clauses h.clauses lead.0 f.variables h.rest (flat_map step_line l) a.told.within lead.1 (omega (arith, head.1)) lead.2 lacks

    bad_step : EndsInSteps bytes line → ⊥
    bad_step h =
        let head = header_once bytes f.variables h.variables (length f.clauses) (length h.clauses) (behind_header f l) h.behind (text_header bytes f l few a) h.header in
        let within : All (IsWithin f.variables) h.clauses = rw head.0 h.front.within in
        let order : AreInOrder f.variables (length h.clauses) h.log = rw head.0 h.steps.in_order in
        let lacks : LacksStep h.rest f.variables (length h.clauses + length h.log) = rw head.0 h.lacks in
        let lead = lines_lead clause_line (IsWithin f.variables) (clause_is_line f.variables a.told.limit) h.clauses f.clauses h.middle (flat_map step_line l) within a.told.within (omega (arith, head.1)) (sym h.front.text ∙ sym head.2) in
        let none = nothing_more h.clauses f.clauses lead.0 lead.1 head.1 in
        let middle : h.middle ≡ flat_map step_line l = lead.2 ∙ ap (λ t. flat_map clause_line t ++ flat_map step_line l) none in
        let steps : flat_map step_line h.log ++ h.rest ≡ flat_map step_line l = sym h.steps.text ∙ middle in
        let most = length bytes in
        let is = step_is_line f.variables most a.told.limit few in
        let size : length (flat_map step_line h.log) + length h.rest ≡ length (flat_map step_line l) = sym (length-append (flat_map step_line h.log) h.rest) ∙ ap (λ (t : List ℕ). length t) steps in
        let long = text_length bytes f l a in
        let l_follow = all_follow f.variables (length f.clauses) most l (omega (arith, steps_long f.variables l a.told.limit)) a.told.in_order in
        let h_follow = all_follow f.variables (length h.clauses) most h.log (omega (arith, head.1, steps_long f.variables h.log a.told.limit)) order in
        let go = lines_lead_all step_line (MayFollow f.variables most) is h.log l h.rest h_follow l_follow steps in
        let l_order : AreInOrder f.variables (length h.clauses) l = rw (← head.1) a.told.in_order in
        steps_go_on l h.log go.0 f.variables (length h.clauses) h.rest l_order go.1 go.2 h.left lacks

-- what was read of a text is what it says
pub text_reads_back : (bytes : List ℕ) (r : Result (Cnf × List LogStep) ProofError) → length bytes < number_cap → MatchResult r (λ x. IsProofText bytes x.0 x.1) (IsAt (IsFirstBadLine bytes))
    → (f : Cnf) (l : List LogStep) → IsProofText bytes f l → ReadsBack f l r
text_reads_back bytes (Ok x) few h f l a = one_text bytes x.0 f x.1 l few h a
text_reads_back bytes (Err (errors.Bad line)) few h f l a = absurd (no_bad_line bytes f l line few a h)
text_reads_back bytes (Err errors.Memory) few h f l a = refl
