-- `? :` and assignments are read exactly where their parts are.
use Rattle.std.proofs.Common.{◌≡◌, ℕ, suc, ◌<◌, ◌≤◌, Bool, true, false, List, ◌++◌, Option, Some, None, refl, sym, ap, subst, ◌∙◌, inl, inr, arith, nat_lt}
use Rattle.std.specs.Prelude.{◌⊎◌, ◌&&◌, ◌||◌}
use Rattle.std.proofs.lemmas.Bool.{and_parts, lt-ltb, ltb-true}
use Rattle.lz_tree.specs.declared.token.Token.{Token}
use Rattle.lz_tree.specs.declared.token.TokenKind.{TokenKind}
use Rattle.lz_tree.specs.declared.token.TokenKind.TheVariants as kinds
use Rattle.lz_tree.specs.declared.token.Punct.{Punct}
use Rattle.lz_tree.specs.declared.token.Punct.TheVariants as marks
use Rattle.lz_base.specs.declared.operator.Binary.{Binary}
use Rattle.lz_tree.specs.Languages.{showing, is_mark, same_mark, mark_shown, meant_by, mark_in, line_at}
use Rattle.lz_tree.specs.Spelling.{operator_of, assigning_of, SpellsExpression}
use Rattle.lz_tree.specs.Trees.{Expression, object, binary, choose, assign, Index}
use Rattle.lz_tree.specs.Height.{expression_height}
use Rattle.lz_tree.specs.WellFormed.{InExpression, FitsExpression, MayAssign, level}
use Rattle.lz_expr.specs.Reading.{Reader, and_then, ◌>>=◌, pure, shows}
use Rattle.lz_expr.specs.Grammar.{mark, is_object, assigned, chosen, conditional, value_of, assignment}
use Rattle.lz_expr.proofs.RowsLemmas.{Row, made, along, row_last, row_token, row_part, heads_token, begins_token, lined_text, row_lined}
use Rattle.lz_expr.proofs.TailLemmas.{Extended, row_tail}
use Rattle.lz_expr.proofs.LevelsLemmas.{tight_or}
use Rattle.lz_expr.proofs.TokensLemmas.{the_mark, the_mark_shows, token_of, mark_is, mark_shows, is_mark_is, shows_some, some_shows, line_leads}
use Rattle.lz_expr.proofs.GoesLemmas.{below, goes, choose_goes, assign_goes, class_goes, Flat, is_flat, flat_of, goes_quiet, choose_quiet, colon_stops}
use Rattle.lz_expr.proofs.ExpressionsLemmas.{tall, level_small, loose_small, some_text}

-- `?` is no operator, bracket, parenthesis or step
question_none : is_flat (kinds.Punct marks.Question) ≡ false
unfolding same_mark
question_none = refl

question_flat : (c : Token) → is_mark marks.Question c ≡ true → Flat c
question_flat c h = flat_of c (ap is_flat (is_mark_is marks.Question c h) ∙ question_none)

question_no_operator : (c : Token) → is_mark marks.Question c ≡ true → meant_by operator_of c ≡ None
unfolding meant_by
question_no_operator c h = ap (mark_in operator_of) (is_mark_is marks.Question c h)

-- nor is an assignment operator, nor is it `?`
assigning_marks : (m : Punct) (op : Option Binary) → assigning_of m ≡ Some op → (is_flat (kinds.Punct m) ≡ false) × (operator_of m ≡ None) × (same_mark m marks.Question ≡ false)
unfolding same_mark
assigning_marks marks.Assign op h = (refl, refl, refl)
assigning_marks marks.AddAssign op h = (refl, refl, refl)
assigning_marks marks.SubAssign op h = (refl, refl, refl)
assigning_marks marks.MulAssign op h = (refl, refl, refl)
assigning_marks marks.DivAssign op h = (refl, refl, refl)
assigning_marks marks.RemAssign op h = (refl, refl, refl)
assigning_marks marks.AndAssign op h = (refl, refl, refl)
assigning_marks marks.OrAssign op h = (refl, refl, refl)
assigning_marks marks.XorAssign op h = (refl, refl, refl)
assigning_marks marks.ShlAssign op h = (refl, refl, refl)
assigning_marks marks.ShrAssign op h = (refl, refl, refl)
assigning_marks _ op h = absurd cc

assigning_kinds : (c : Token) (k : TokenKind) (op : Option Binary) → c.kind ≡ k → mark_in assigning_of k ≡ Some op → (is_flat c.kind ≡ false) × (meant_by operator_of c ≡ None) × (is_mark marks.Question c ≡ false)
unfolding meant_by is_mark
assigning_kinds c (kinds.Punct m) op e h = let d = assigning_marks m op h in (ap is_flat e ∙ d.0, ap (mark_in operator_of) e ∙ d.1, rw e d.2)
assigning_kinds c (kinds.Name n) op e h = absurd cc
assigning_kinds c (kinds.Constant v f) op e h = absurd cc
assigning_kinds c kinds.Text op e h = absurd cc
assigning_kinds c (kinds.Keyword w) op e h = absurd cc

assigning_is : (c : Token) → shows (meant_by assigning_of c) ≡ true → (is_flat c.kind ≡ false) × (meant_by operator_of c ≡ None) × (is_mark marks.Question c ≡ false)
unfolding meant_by
assigning_is c h = let s = shows_some (meant_by assigning_of c) h in assigning_kinds c c.kind s.0 refl s.1

-- nor does one compute `&&` or `||`
abbrev MaySome : Option (Option Binary) → Type 0
MaySome None = Unit {0}
MaySome (Some op) = MayAssign op

may_marks : (m : Punct) → MaySome (assigning_of m)
may_marks marks.Assign = tt
may_marks marks.AddAssign = refl
may_marks marks.SubAssign = refl
may_marks marks.MulAssign = refl
may_marks marks.DivAssign = refl
may_marks marks.RemAssign = refl
may_marks marks.AndAssign = refl
may_marks marks.OrAssign = refl
may_marks marks.XorAssign = refl
may_marks marks.ShlAssign = refl
may_marks marks.ShrAssign = refl
may_marks _ = tt

may_kinds : (k : TokenKind) → MaySome (mark_in assigning_of k)
may_kinds (kinds.Punct m) = may_marks m
may_kinds (kinds.Name n) = tt
may_kinds (kinds.Constant v f) = tt
may_kinds kinds.Text = tt
may_kinds (kinds.Keyword w) = tt

may_of : (c : Token) (op : Option Binary) → meant_by assigning_of c ≡ Some op → MayAssign op
unfolding meant_by
may_of c op h = subst (λ (o : Option (Option Binary)). MaySome o) h (may_kinds c.kind)

equal_token : Token
equal_token = token_of (kinds.Punct marks.Assign)

equal_shows : meant_by assigning_of equal_token ≡ Some None
unfolding equal_token meant_by token_of
equal_shows = refl

module _ (h : ℕ) (inner : ℕ → Reader Token Expression) (rows : 0 < h → (c : ℕ) → c ≤ 12 → Row (InExpression h c) (inner c) (class_goes (below h) c)) where
  abbrev Start : ℕ → ℕ × Expression → List Token → Type 0
  Start c = lined_text line_at (InExpression (suc h) c)

  -- ---- `? :`

  abbrev yes_text : ℕ × Expression → ℕ → Expression → List Token → Type 0
  yes_text p m = along (InExpression h 12) (λ a. along (showing (mark_shown marks.Colon)) (λ k. made (λ b. choose p.0 p.1 a b) (InExpression h 11)))

  abbrev chosen_text : ℕ × Expression → Expression → List Token → Type 0
  chosen_text p = along (showing (mark_shown marks.Question)) (yes_text p)

  yes_row : 0 < h → (p : ℕ × Expression) (m : ℕ) → Row (yes_text p m) (inner 12 >>= (λ a. mark marks.Colon >>= (λ k. inner 11 >>= (λ b. pure (choose p.0 p.1 a b))))) (choose_goes h)
  yes_row some p m =
      row_part (InExpression h 12) (inner 12) (class_goes (below h) 12) (mark_shown marks.Colon) (λ a k. made (λ b. choose p.0 p.1 a b) (InExpression h 11)) _ (choose_goes h) (rows some 12 (omega arith))
      (the_mark marks.Colon) _ (the_mark_shows marks.Colon) (colon_stops (below h) 12)
      (λ a k. row_last (InExpression h 11) (inner 11) (class_goes (below h) 11) (λ b. choose p.0 p.1 a b) (choose_goes h) (rows some 11 (omega arith)) (λ b u c m. refl))

  chosen_row : 0 < h → (p : ℕ × Expression) → Row (chosen_text p) (chosen inner h p) (choose_goes h)
  unfolding chosen
  chosen_row some p = row_token (mark_shown marks.Question) (yes_text p) _ (choose_goes h) (the_mark marks.Question) _ (the_mark_shows marks.Question) (yes_row some p)

  room : (e : Expression) → nat_lt (expression_height e) (suc h) ≡ true → 0 < h
  room e q = let high = tall e in let below = ltb-true (expression_height e) (suc h) q in omega arith

  chosen_more : (p : ℕ × Expression) (t : Expression) (u v : List Token) → Start 10 p u → nat_lt (expression_height p.1) (suc h) ≡ true → chosen_text p t v → InExpression (suc h) 11 t (u ++ v)
  chosen_more p t u v (at, s) q (m, (a, b, same, question, (x, (a₂, b₂, same₂, x_in, (k, (a₃, b₃, same₃, colon, (y, is, y_in))))))) =
      let below = ltb-true (expression_height p.1) (suc h) q in
      let made : InExpression (suc h) 11 (choose p.0 p.1 x y) (u ++ v) = record {
        low = (let i = x_in.low in let j = y_in.low in omega arith);
        tight = omega arith;
        fits = ((let i = s.tight in omega arith), y_in.tight, s.fits, x_in.fits, y_in.fits);
        spells = (line_leads u v (some_text p.1 u s.spells) ∙ at, (u, v, refl, s.spells, (a, b, same, (m, question), (a₂, b₂, same₂, x_in.spells, (a₃, b₃, same₃, (k, colon), y_in.spells)))));
      } in
      subst (λ (e : Expression). InExpression (suc h) 11 e (u ++ v)) is made

  split_choose : (line : ℕ) (x y z : Expression) (u : List Token) → expression_height (choose line x y z) ≤ suc h → FitsExpression (choose line x y z) → SpellsExpression (choose line x y z) u
      → Extended (Start 10) (λ p. nat_lt (expression_height p.1) (suc h)) chosen_text (choose line x y z) u
  split_choose line x y z u low (lx, lz, fx, fy, fz) (at, (a, b, same, sx, (a₂, b₂, same₂, (m, question), (a₃, b₃, same₃, sy, (a₄, b₄, same₄, (k, colon), sz))))) = record {
    start = (line, x);
    before = a;
    behind = b;
    same = same;
    start_in = (sym (line_leads a b (some_text x a sx)) ∙ ap line_at (sym same) ∙ at, record { low = omega arith; tight = omega arith; fits = fx; spells = sx });
    may = lt-ltb (expression_height x) (suc h) (omega arith);
    rest_in = (
      m,
      (
        a₂,
        b₂,
        same₂,
        question,
        (
          y,
          (
            a₃,
            b₃,
            same₃,
            record { low = omega arith; tight = level_small y; fits = fy; spells = sy },
            (
              k,
              (
                a₄,
                b₄,
                same₄,
                colon,
                (z, refl, record { low = omega arith; tight = lz; fits = fz; spells = sz }),
              ),
            ),
          ),
        ),
      ),
    );
  }

  choose_leaf : (t : Expression) (u : List Token) → InExpression (suc h) 11 t u → level t ≤ 10
      → ((p : ℕ × Expression) × (p.1 ≡ t) × Start 10 p u) ⊎ Extended (Start 10) (λ p. nat_lt (expression_height p.1) (suc h)) chosen_text t u
  choose_leaf t u m low = inl ((line_at u, t), refl, (refl, record { low = m.low; tight = low; fits = m.fits; spells = m.spells }))

  choose_split : (t : Expression) (u : List Token) → expression_height t ≤ suc h → FitsExpression t → SpellsExpression t u → InExpression (suc h) 11 t u → (level t ≤ 10) ⊎ (level t ≡ 11)
      → ((p : ℕ × Expression) × (p.1 ≡ t) × Start 10 p u) ⊎ Extended (Start 10) (λ p. nat_lt (expression_height p.1) (suc h)) chosen_text t u
  choose_split t u low fits spells m (inl l) = choose_leaf t u m l
  choose_split (choose line x y z) u low fits spells m (inr l) = inr (split_choose line x y z u low fits spells)
  choose_split (binary line op x y) u low fits spells m (inr l) = let small = loose_small op in absurd (omega arith)
  choose_split (assign line op at n i v) u low fits spells m (inr l) = absurd (omega arith)
  choose_split _ u low fits spells m (inr l) = absurd (omega arith)

  choose_alone : (p : ℕ × Expression) (u : List Token) (c : Token) → Start 10 p u → choose_goes h p.1 c ≡ (goes h 10 p.1 c || (nat_lt (expression_height p.1) (suc h) && is_mark marks.Question c))
  choose_alone (line, choose l x y z) u c (at, s) = let t = s.tight in absurd (omega arith)
  choose_alone (line, _) u c m = refl

  pub row_choose : (rt : Reader Token Expression) → Row (InExpression (suc h) 10) rt (goes h 10) → Row (InExpression (suc h) 11) (conditional inner h rt) (choose_goes h)
  unfolding conditional
  row_choose rt tighter = row_tail (Start 10) (λ ts. and_then (rt ts) (λ e. pure {A = ℕ × Expression} (line_at ts, e))) (λ p. goes h 10 p.1)
      (row_lined line_at (InExpression (suc h) 10) rt (goes h 10) tighter (λ t u v m. line_leads u v (some_text t u m.spells)))
      (λ p. p.1) (λ p. nat_lt (expression_height p.1) (suc h)) (is_mark marks.Question) chosen_text (chosen inner h) (λ p. choose_goes h) (λ p q. chosen_row (room p.1 q) p) (InExpression (suc h) 11) (choose_goes h)
      (λ p u m. record { low = m.1.low; tight = (let t = m.1.tight in omega arith); fits = m.1.fits; spells = m.1.spells })
      chosen_more
      (λ t u m. choose_split t u m.low m.fits m.spells m (tight_or (level t) 10 m.tight))
      (λ p t c v q m. let s = heads_token (mark_shown marks.Question) (yes_text p) t c v m in mark_is marks.Question c s.0 s.1)
      (λ p c q i. begins_token (mark_shown marks.Question) (yes_text p) c c.line (mark_shows marks.Question c i) (yes_row (room p.1 q) p c.line).some)
      (λ p u c m q i. goes_quiet h 10 p.1 c (question_flat c i) (question_no_operator c i))
      choose_alone
      (λ p t v c q m. refl)

  -- ---- assignments

  abbrev value_text : ℕ × Expression → Expression → List Token → Type 0
  value_text p = along (showing (meant_by assigning_of)) (λ op. made (assigned p op) (InExpression h 12))

  abbrev may_assign : ℕ × Expression → Bool
  may_assign p = is_object p.1 && nat_lt 0 h

  assigned_goes : (p : ℕ × Expression) → is_object p.1 ≡ true → (op : Option Binary) (v : Expression) (c : Token) → assign_goes h (assigned p op v) c ≡ assign_goes (below h) v c
  assigned_goes (line, object at n i) q op v c = refl
  assigned_goes (line, _) q op v c = absurd cc

  behind_row : (p : ℕ × Expression) → may_assign p ≡ true → (op : Option Binary) → Row (made (assigned p op) (InExpression h 12)) (inner 12 >>= (λ v. pure (assigned p op v))) (assign_goes h)
  behind_row p q op =
      row_last (InExpression h 12) (inner 12) (class_goes (below h) 12) (assigned p op) (assign_goes h) (rows (ltb-true 0 h (and_parts (is_object p.1) (nat_lt 0 h) q).1) 12 (omega arith))
      (λ v u c m. assigned_goes p (and_parts (is_object p.1) (nat_lt 0 h) q).0 op v c)

  value_row : (p : ℕ × Expression) → may_assign p ≡ true → Row (value_text p) (value_of inner h p) (assign_goes h)
  unfolding value_of
  value_row p q = row_token (meant_by assigning_of) (λ op. made (assigned p op) (InExpression h 12)) _ (assign_goes h) equal_token None equal_shows (behind_row p q)

  value_more : (p : ℕ × Expression) (t : Expression) (u v : List Token) → Start 11 p u → is_object p.1 ≡ true → value_text p t v → InExpression (suc h) 12 t (u ++ v)
  value_more (line, object at n i) t u v (line_is, s) q (op, (a, b, same, sign, (w, is, w_in))) =
      let made : InExpression (suc h) 12 (assign line op at n i w) (u ++ v) = record {
        low = (let x = s.low in let y = w_in.low in omega arith);
        tight = omega arith;
        fits = (may_of sign.0 op sign.2, s.fits, w_in.fits);
        spells = (line_leads u v (some_text (object at n i) u s.spells) ∙ line_is, (u, v, refl, s.spells, (a, b, same, sign, w_in.spells)));
      } in
      subst (λ (e : Expression). InExpression (suc h) 12 e (u ++ v)) is made
  value_more (line, _) t u v s q b = absurd cc

  split_assign : (line : ℕ) (op : Option Binary) (at n : ℕ) (i : Index) (v : Expression) (u : List Token) → expression_height (assign line op at n i v) ≤ suc h → FitsExpression (assign line op at n i v) → SpellsExpression (assign line op at n i v) u
      → Extended (Start 11) may_assign value_text (assign line op at n i v) u
  split_assign line op at n i v u low (may, fi, fv) (line_is, (a, b, same, target, (c, d, same₂, sign, sv))) =
      let high = tall v in
      record {
        start = (line, object at n i);
        before = a;
        behind = b;
        same = same;
        start_in = (sym (line_leads a b (some_text (object at n i) a target)) ∙ ap line_at (sym same) ∙ line_is, record { low = omega arith; tight = omega arith; fits = fi; spells = target });
        may = rw (lt-ltb 0 h (omega arith)) refl;
        rest_in = (op, (c, d, same₂, sign, (v, refl, record { low = omega arith; tight = level_small v; fits = fv; spells = sv })));
      }

  assign_leaf : (t : Expression) (u : List Token) → InExpression (suc h) 12 t u → level t ≤ 11 → ((p : ℕ × Expression) × (p.1 ≡ t) × Start 11 p u) ⊎ Extended (Start 11) may_assign value_text t u
  assign_leaf t u m low = inl ((line_at u, t), refl, (refl, record { low = m.low; tight = low; fits = m.fits; spells = m.spells }))

  assign_split : (t : Expression) (u : List Token) → expression_height t ≤ suc h → FitsExpression t → SpellsExpression t u → InExpression (suc h) 12 t u → (level t ≤ 11) ⊎ (level t ≡ 12)
      → ((p : ℕ × Expression) × (p.1 ≡ t) × Start 11 p u) ⊎ Extended (Start 11) may_assign value_text t u
  assign_split t u low fits spells m (inl l) = assign_leaf t u m l
  assign_split (assign line op at n i v) u low fits spells m (inr l) = inr (split_assign line op at n i v u low fits spells)
  assign_split (binary line op x y) u low fits spells m (inr l) = let small = loose_small op in absurd (omega arith)
  assign_split (choose line x y z) u low fits spells m (inr l) = absurd (omega arith)
  assign_split _ u low fits spells m (inr l) = absurd (omega arith)

  assign_alone : (p : ℕ × Expression) (u : List Token) (c : Token) → Start 11 p u → assign_goes h p.1 c ≡ (choose_goes h p.1 c || (may_assign p && shows (meant_by assigning_of c)))
  assign_alone (line, assign l op a n i v) u c (at, s) = let t = s.tight in absurd (omega arith)
  assign_alone (line, _) u c m = refl

  assign_apart : (p : ℕ × Expression) (c : Token) → shows (meant_by assigning_of c) ≡ true → choose_goes h p.1 c ≡ false
  assign_apart p c i = let d = assigning_is c i in choose_quiet h p.1 c (flat_of c d.0) d.1 d.2

  pub row_assign : (rt : Reader Token Expression) → Row (InExpression (suc h) 11) rt (choose_goes h) → Row (InExpression (suc h) 12) (assignment inner h rt) (assign_goes h)
  unfolding assignment
  row_assign rt tighter = row_tail (Start 11) (λ ts. and_then (rt ts) (λ e. pure {A = ℕ × Expression} (line_at ts, e))) (λ p. choose_goes h p.1)
      (row_lined line_at (InExpression (suc h) 11) rt (choose_goes h) tighter (λ t u v m. line_leads u v (some_text t u m.spells)))
      (λ p. p.1) may_assign (λ c. shows (meant_by assigning_of c)) value_text (value_of inner h) (λ p. assign_goes h) value_row (InExpression (suc h) 12) (assign_goes h)
      (λ p u m. record { low = m.1.low; tight = (let t = m.1.tight in omega arith); fits = m.1.fits; spells = m.1.spells })
      (λ p t u v s q b. value_more p t u v s (and_parts (is_object p.1) (nat_lt 0 h) q).0 b)
      (λ t u m. assign_split t u m.low m.fits m.spells m (tight_or (level t) 11 m.tight))
      (λ p t c v q m. let s = heads_token (meant_by assigning_of) (λ op. made (assigned p op) (InExpression h 12)) t c v m in some_shows (meant_by assigning_of c) s.0 s.1)
      (λ p c q i. let s = shows_some (meant_by assigning_of c) i in begins_token (meant_by assigning_of) (λ op. made (assigned p op) (InExpression h 12)) c s.0 s.1 (behind_row p q s.0).some)
      (λ p u c m q i. assign_apart p c i)
      assign_alone
      (λ p t v c q m. refl)
