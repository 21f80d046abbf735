-- Two traces of one code part only where an action of theirs is answered differently.
use Rattle.std.proofs.Common.{◌≡◌, ◌≢◌, ℕ, ◌+◌, zero, suc, ◌⊎◌, inl, inr, Bool, true, false, List, [], ◌∷◌, ◌++◌, Option, Some, None, refl, sym, ◌∙◌, ap, subst, append_assoc}
use Rattle.std.proofs.lemmas.Bool.{cases_eq}
use Rattle.std.proofs.lemmas.List.{append-nil}
use Rattle.lz_base.specs.declared.word.BreakKind.{BreakKind}
use Rattle.lz_base.specs.declared.word.BreakKind.TheVariants as kinds
use Rattle.lz_base.specs.declared.word.IntType.{IntType}
use Rattle.lz_base.specs.declared.word.IntType.TheVariants as kind_types
use Rattle.lz_base.specs.Words.{is_true, truth, converted}
use Rattle.std.specs.Prelude.{slice_index, nat_lt}
use Rattle.lz_base.specs.declared.operator.Binary.{Binary}
use Rattle.lz_base.specs.declared.operator.Binary.TheVariants as ops
use Rattle.lz_tree.specs.declared.scoped.KnownName.{KnownName}
use Rattle.lz_tree.specs.declared.scoped.KnownName.TheVariants as known
use Rattle.lz_tree.specs.declared.scoped.Object.{Object}
use Rattle.lz_tree.specs.declared.scoped.Object.TheVariants.{Local, Cell, Mutex, Cond, Handle, Routine, Known}
use Rattle.lz_tree.specs.ScopedTrees.{ScopedExpression, constant, null, text, object, address, paren, unary, cast, binary, choose, assign, step, call, Lvalue, lvalue, ScopedIndex, whole, element, ScopedExpressions, none, and, ScopedInitializer, nothing, single, listed, ScopedInitDeclarator, ScopedStatement, empty, eval, block, declare, when, while, do_while, for, break, continue, return, label, ScopedBranch, absent, branch, ScopedStatements, nil, cons, ScopedProgram}
use Rattle.lz_model.specs.declared.actions.Action.TheVariants.{Input, Rd, Signal, Create}
use Rattle.lz_model.specs.Actions.{Act}
use Rattle.lz_model.specs.Behaviours.{Outcome, done, exits, cut, Behaviour, EndsWith, ends_with, Halts, halts, Leaves, leaves, updates, tells, chooses, GoesOn, ◌and_then◌, ◌gives◌, picks}
use Rattle.lz_model.specs.CodeTraces.{Locals, entered, came_back, InFrame, in_frame, Calls, at, does, checks, assumes, inputs, read_at, write_at, needs, bounds, checks_index, kind_of, kinds_of, passed, is_division, checks_divisor, decides, behind_first, known_trace, locs, expression_trace, arguments_trace, objects_trace, values_trace, handed_trace, place_trace, index_trace, is_object_argument, len_of, kind_of_object, right_operand, assigned, stepped, Flow, normal, breaks, continues, returns, arbitrary_trace, zeros_trace, listed_trace, no_threads_trace, integer_trace, object_trace, declarators_trace, led_on, turned, turns, do_turns, test_trace, change_trace, return_trace, statement_trace, branch_trace, statements_trace}
use Rattle.lz_model.specs.Programs.{function_at, calls_within}

-- ---- how two traces part

-- An action that is answered in two ways: what a read finds, what is put in, whom a signal wakes, which thread is made.
pub data IsAnswered (one other : Act) : Type 0 where
  reads : (line cell v w : ℕ) → v ≢ w → one ≡ at line (Rd cell v) → other ≡ at line (Rd cell w) → IsAnswered one other
  puts_in : (line v w : ℕ) → v ≢ w → one ≡ at line (Input v) → other ≡ at line (Input w) → IsAnswered one other
  wakes : (line number : ℕ) (v w : Option ℕ) → v ≢ w → one ≡ at line (Signal number v) → other ≡ at line (Signal number w) → IsAnswered one other
  makes : (line v w routine argument : ℕ) → v ≢ w → one ≡ at line (Create v routine argument) → other ≡ at line (Create w routine argument) → IsAnswered one other

-- Two lists of actions are the same up to an action that is answered differently in them.
pub record Parts (xs ys : List Act) : Type 0 where
  pub front : List Act
  pub one : Act
  pub other : Act
  pub rest : List Act
  pub more : List Act
  pub answered : IsAnswered one other
  pub left : xs ≡ front ++ one ∷ rest
  pub right : ys ≡ front ++ other ∷ more

-- Two ways through one code: the same; one of them is cut where the other goes on; or they part.
pub data Agrees {S A : Type 0} (xs : List Act) (o : Outcome S A) (ys : List Act) (p : Outcome S A) : Type 0 where
  same : xs ≡ ys → o ≡ p → Agrees xs o ys p
  left_cut : (more : List Act) → o ≡ cut → ys ≡ xs ++ more → Agrees xs o ys p
  right_cut : (more : List Act) → p ≡ cut → xs ≡ ys ++ more → Agrees xs o ys p
  part : Parts xs ys → Agrees xs o ys p

-- any two ways through two pieces of code agree
pub record Agree {S A : Type 0} (code other : Behaviour S A) : Type 0 where
  pub agrees : (before : S) (xs ys : List Act) (o p : Outcome S A) → code before xs o → other before ys p → Agrees xs o ys p

turned_round : {a b : Act} → IsAnswered a b → IsAnswered b a
turned_round (reads line cell v w h e k) = reads line cell w v (λ z. h (sym z)) k e
turned_round (puts_in line v w h e k) = puts_in line w v (λ z. h (sym z)) k e
turned_round (wakes line number v w h e k) = wakes line number w v (λ z. h (sym z)) k e
turned_round (makes line v w routine argument h e k) = makes line w v routine argument (λ z. h (sym z)) k e

parts_round : {xs ys : List Act} → Parts xs ys → Parts ys xs
parts_round d = record { front = d.front; one = d.other; other = d.one; rest = d.more; more = d.rest; answered = turned_round d.answered; left = d.right; right = d.left }

-- lists that part still do with more behind them, and before them
pub parts_more : {xs ys : List Act} (r s : List Act) → Parts xs ys → Parts (xs ++ r) (ys ++ s)
parts_more r s d = record {
  front = d.front;
  one = d.one;
  other = d.other;
  rest = d.rest ++ r;
  more = d.more ++ s;
  answered = d.answered;
  left = ap (λ (l : List Act). l ++ r) d.left ∙ append_assoc d.front (d.one ∷ d.rest) r;
  right = ap (λ (l : List Act). l ++ s) d.right ∙ append_assoc d.front (d.other ∷ d.more) s;
}

parts_behind : {xs ys : List Act} (front : List Act) → Parts xs ys → Parts (front ++ xs) (front ++ ys)
parts_behind front d = record {
  front = front ++ d.front;
  one = d.one;
  other = d.other;
  rest = d.rest;
  more = d.more;
  answered = d.answered;
  left = ap (λ (l : List Act). front ++ l) d.left ∙ sym (append_assoc front d.front (d.one ∷ d.rest));
  right = ap (λ (l : List Act). front ++ l) d.right ∙ sym (append_assoc front d.front (d.other ∷ d.more));
}

module _ {S A : Type 0} where
  round : {xs ys : List Act} {o p : Outcome S A} → Agrees xs o ys p → Agrees ys p xs o
  round (same e k) = same (sym e) (sym k)
  round (left_cut more e k) = right_cut more e k
  round (right_cut more e k) = left_cut more e k
  round (part d) = part (parts_round d)

  behind : (front : List Act) {xs ys : List Act} {o p : Outcome S A} → Agrees xs o ys p → Agrees (front ++ xs) o (front ++ ys) p
  behind front (same e k) = same (ap (λ (l : List Act). front ++ l) e) k
  behind front {xs} (left_cut more e k) = left_cut more e (ap (λ (l : List Act). front ++ l) k ∙ sym (append_assoc front xs more))
  behind front {xs} {ys} (right_cut more e k) = right_cut more e (ap (λ (l : List Act). front ++ l) k ∙ sym (append_assoc front ys more))
  behind front (part d) = part (parts_behind front d)

-- ---- the ways in which code is put together

-- a first part that ends the whole
Ends : {S A B : Type 0} → Outcome S A → Outcome S B → Type 0
Ends (done t v) o = ⊥
Ends (exits w) o = o ≡ exits w
Ends cut o = o ≡ cut

module _ {S A B : Type 0} where
  -- how a whole came about: its first part ends it, or is done
  data Whole (code : Behaviour S A) (next : A → Behaviour S B) (s : S) (acts : List Act) (o : Outcome S B) : Type 0 where
    ended : (first : Outcome S A) → Ends first o → code s acts first → Whole code next s acts o
    joined : GoesOn code next s acts o → Whole code next s acts o

  whole_of : (code : Behaviour S A) (next : A → Behaviour S B) (s : S) (acts : List Act) (o : Outcome S B) → (code and_then next) s acts o → Whole code next s acts o
  unfolding Ends
  whole_of code next s acts (done t v) h = joined h.is
  whole_of code next s acts (exits w) h = elim h.is [ inl c ↦ ended (exits w) refl c | inr g ↦ joined g ]
  whole_of code next s acts cut h = elim h.is [ inl c ↦ ended cut refl c | inr g ↦ joined g ]

  ends_is : (first : Outcome S A) (o : Outcome S B) → Ends first o → first ≡ cut → o ≡ cut
  unfolding Ends
  ends_is (done t v) o e k = absurd cc
  ends_is (exits w) o e k = absurd cc
  ends_is cut o e k = e

  ends_alike : (first second : Outcome S A) (o p : Outcome S B) → Ends first o → Ends second p → first ≡ second → o ≡ p
  unfolding Ends
  ends_alike (done t v) second o p e k h = absurd e
  ends_alike (exits w) (done t v) o p e k h = absurd k
  ends_alike (exits w) (exits x) o p e k h = let same_ : w ≡ x = cc in e ∙ ap (λ (b : Bool). let r : Outcome S B = exits b in r) same_ ∙ sym k
  ends_alike (exits w) cut o p e k h = absurd cc
  ends_alike cut (done t v) o p e k h = absurd k
  ends_alike cut (exits x) o p e k h = absurd cc
  ends_alike cut cut o p e k h = e ∙ sym k

  not_done : (first : Outcome S A) (o : Outcome S B) (t : S) (v : A) → Ends first o → first ≡ done t v → ⊥
  unfolding Ends
  not_done (done u w) o t v e k = e
  not_done (exits w) o t v e k = absurd cc
  not_done cut o t v e k = absurd cc

  both_ended : {xs ys : List Act} (first second : Outcome S A) (o p : Outcome S B) → Ends first o → Ends second p → Agrees xs first ys second → Agrees xs o ys p
  both_ended first second o p e k (same h l) = same h (ends_alike first second o p e k l)
  both_ended first second o p e k (left_cut more h l) = left_cut more (ends_is first o e h) l
  both_ended first second o p e k (right_cut more h l) = right_cut more (ends_is second p k h) l
  both_ended first second o p e k (part d) = part d

  -- the one ended, and the other went on
  one_ended : {xs ys : List Act} (first : Outcome S A) (o p : Outcome S B) (t : S) (v : A) (front rest : List Act) → Ends first o → ys ≡ front ++ rest
      → Agrees xs first front (done t v) → Agrees xs o ys p
  one_ended first o p t v front rest e k (same h l) = absurd (not_done first o t v e l)
  one_ended {xs} first o p t v front rest e k (left_cut more h l) =
      left_cut (more ++ rest) (ends_is first o e h) (k ∙ ap (λ (l : List Act). l ++ rest) l ∙ append_assoc xs more rest)
  one_ended first o p t v front rest e k (right_cut more h l) = absurd cc
  one_ended {xs} {ys} first o p t v front rest e k (part d) =
      let longer = parts_more [] rest d in
      part (subst (λ (l : List Act). Parts l ys) (append-nil xs) (subst (λ (l : List Act). Parts (xs ++ []) l) (sym k) longer))

  both_joined : {xs ys : List Act} (o p : Outcome S B) (t u : S) (v w : A) (front rest other more : List Act) → xs ≡ front ++ rest → ys ≡ other ++ more
      → (t ≡ u → v ≡ w → Agrees rest o more p) → Agrees front (done t v) other (done u w) → Agrees xs o ys p
  both_joined {xs} {ys} o p t u v w front rest other more e k later (same h l) =
      let alike : t ≡ u = cc in
      let value : v ≡ w = cc in
      let after : Agrees (front ++ rest) o (front ++ more) p = behind front (later alike value) in
      subst (λ (l : List Act). Agrees l o ys p) (sym e) (subst (λ (l : List Act). Agrees (front ++ rest) o l p) (ap (λ (l : List Act). l ++ more) h ∙ sym k) after)
  both_joined o p t u v w front rest other more e k later (left_cut z h l) = absurd cc
  both_joined o p t u v w front rest other more e k later (right_cut z h l) = absurd cc
  both_joined {xs} {ys} o p t u v w front rest other more e k later (part d) =
      part (subst (λ (l : List Act). Parts l ys) (sym e) (subst (λ (l : List Act). Parts (front ++ rest) l) (sym k) (parts_more rest more d)))

  agree_whole : {code other : Behaviour S A} {next later : A → Behaviour S B} → Agree code other → ((v : A) → Agree (next v) (later v)) → (s : S) (xs ys : List Act) (o p : Outcome S B)
      → Whole code next s xs o → Whole other later s ys p → Agrees xs o ys p
  agree_whole f q s xs ys o p (ended first e h) (ended second k l) = both_ended first second o p e k (f.agrees s xs ys first second h l)
  agree_whole f q s xs ys o p (ended first e h) (joined g) =
      one_ended first o p g.middle g.value g.front g.rest e g.joined (f.agrees s xs g.front first (done g.middle g.value) h g.starts)
  agree_whole f q s xs ys o p (joined g) (ended second k l) =
      round (one_ended second p o g.middle g.value g.front g.rest k g.joined (round (f.agrees s g.front ys (done g.middle g.value) second g.starts l)))
  agree_whole {next = next} {later = later} f q s xs ys o p (joined g) (joined i) =
      both_joined o p g.middle i.middle g.value i.value g.front g.rest i.front i.rest g.joined i.joined
      (λ alike value. (q g.value).agrees g.middle g.rest i.rest o p g.goes
      (subst (λ (v : A). later v g.middle i.rest p) (sym value) (subst (λ (t : S). later i.value t i.rest p) (sym alike) i.goes)))
      (f.agrees s g.front i.front (done g.middle g.value) (done i.middle i.value) g.starts i.starts)

  pub agree_then : {code other : Behaviour S A} {next later : A → Behaviour S B} → Agree code other → ((v : A) → Agree (next v) (later v)) → Agree (code and_then next) (other and_then later)
  agree_then {code} {other} {next} {later} f q =
      record { agrees = λ s xs ys o p h k. agree_whole f q s xs ys o p (whole_of code next s xs o h) (whole_of other later s ys p k) }

  -- the value that is given for the value of what is done
  given : (A → B) → Outcome S A → Outcome S B
  given f (done t v) = done t (f v)
  given f (exits w) = exits w
  given f cut = cut

  gives_is : (code : Behaviour S A) (f : A → B) (s : S) (acts : List Act) (o : Outcome S B) → (code gives f) s acts o → (first : Outcome S A) × code s acts first × (o ≡ given f first)
  unfolding given
  gives_is code f s acts (done t v) h = (done t h.is.0, h.is.1, ap (λ (x : B). let r : Outcome S B = done t x in r) h.is.2)
  gives_is code f s acts (exits w) h = (exits w, h.is, refl)
  gives_is code f s acts cut h = (cut, h.is, refl)

  given_agrees : (f : A → B) {xs ys : List Act} (first second : Outcome S A) (o p : Outcome S B) → o ≡ given f first → p ≡ given f second → Agrees xs first ys second → Agrees xs o ys p
  unfolding given
  given_agrees f first second o p e k (same h l) = same h (e ∙ ap (given f) l ∙ sym k)
  given_agrees f first second o p e k (left_cut more h l) = left_cut more (e ∙ ap (given f) h) l
  given_agrees f first second o p e k (right_cut more h l) = right_cut more (k ∙ ap (given f) h) l
  given_agrees f first second o p e k (part d) = part d

  pub agree_gives : {code other : Behaviour S A} {f : A → B} → Agree code other → Agree (code gives f) (other gives f)
  agree_gives {code} {other} {f} a = record { agrees = of }
    where
      of : (s : S) (xs ys : List Act) (o p : Outcome S B) → (code gives f) s xs o → (other gives f) s ys p → Agrees xs o ys p
      of s xs ys o p h k =
          let one = gives_is code f s xs o h in
          let two = gives_is other f s ys p k in
          given_agrees f one.0 two.0 o p one.2 two.2 (a.agrees s xs ys one.0 two.0 one.1 two.1)

module _ {S A : Type 0} where
  pub agree_value : {v : A} → Agree {S = S} (ends_with v) (ends_with v)
  agree_value {v} = record { agrees = λ s xs ys o p h k. of s xs ys o p h.is k.is }
    where
      of : (s : S) (xs ys : List Act) (o p : Outcome S A) → EndsWith v s xs o → EndsWith v s ys p → Agrees xs o ys p
      of s xs ys (done t a) (done u b) h k = same (h.0 ∙ sym k.0) cc
      of s xs ys (done t a) (exits w) h k = absurd k
      of s xs ys (done t a) cut h k = right_cut [] refl (h.0 ∙ sym (append-nil ys ∙ k))
      of s xs ys (exits w) p h k = absurd h
      of s xs ys cut (done u b) h k = left_cut [] refl (k.0 ∙ sym (append-nil xs ∙ h))
      of s xs ys cut (exits w) h k = absurd k
      of s xs ys cut cut h k = same (h ∙ sym k) refl

  pub agree_halts : Agree {S = S} {A = A} halts halts
  agree_halts = record { agrees = λ s xs ys o p h k. of s xs ys o p h.is k.is }
    where
      of : (s : S) (xs ys : List Act) (o p : Outcome S A) → Halts s xs o → Halts s ys p → Agrees xs o ys p
      of s xs ys (done t a) p h k = absurd h
      of s xs ys (exits w) p h k = absurd h
      of s xs ys cut (done u b) h k = absurd k
      of s xs ys cut (exits w) h k = absurd k
      of s xs ys cut cut h k = same (h ∙ sym k) refl

  -- what does nothing more agrees with every code
  pub agree_halts_left : {code : Behaviour S A} → Agree halts code
  agree_halts_left {code} = record { agrees = λ s xs ys o p h k. of s xs ys o p h.is }
    where
      of : (s : S) (xs ys : List Act) (o p : Outcome S A) → Halts s xs o → Agrees xs o ys p
      of s xs ys (done t a) p h = absurd h
      of s xs ys (exits w) p h = absurd h
      of s xs ys cut p h = left_cut ys refl (ap (λ (l : List Act). l ++ ys) (sym h))

  pub agree_halts_right : {code : Behaviour S A} → Agree code halts
  agree_halts_right {code} = record { agrees = λ s xs ys o p h k. round ((agree_halts_left {code = code}).agrees s ys xs p o k h) }

  pub agree_leaves : {w : Bool} → Agree {S = S} {A = A} (leaves w) (leaves w)
  agree_leaves {w} = record { agrees = λ s xs ys o p h k. of s xs ys o p h.is k.is }
    where
      of : (s : S) (xs ys : List Act) (o p : Outcome S A) → Leaves w s xs o → Leaves w s ys p → Agrees xs o ys p
      of s xs ys (done t a) p h k = absurd h
      of s xs ys (exits v) (done u b) h k = absurd k
      of s xs ys (exits v) (exits x) h k = same (h.0 ∙ sym k.0) cc
      of s xs ys (exits v) cut h k = right_cut [] refl (h.0 ∙ sym (append-nil ys ∙ k))
      of s xs ys cut (done u b) h k = absurd k
      of s xs ys cut (exits x) h k = left_cut [] refl (k.0 ∙ sym (append-nil xs ∙ h))
      of s xs ys cut cut h k = same (h ∙ sym k) refl

  -- a way through one action: cut before it, behind it, or done
  data Once (act : Act) (change : S → S) (value : S → A) (s : S) (acts : List Act) (o : Outcome S A) : Type 0 where
    not_begun : acts ≡ [] → o ≡ cut → Once act change value s acts o
    was_cut : acts ≡ act ∷ [] → o ≡ cut → Once act change value s acts o
    was_done : acts ≡ act ∷ [] → o ≡ done (change s) (value s) → Once act change value s acts o

  once_updates : (act : Act) (f : S → S) (v : A) (s : S) (acts : List Act) (o : Outcome S A) → updates act f v s acts o → Once act f (λ t. v) s acts o
  once_updates act f v s acts (done t w) h = was_done h.is.0 cc
  once_updates act f v s acts (exits w) h = absurd h.is
  once_updates act f v s acts cut h = elim h.is [ inl e ↦ not_begun e refl | inr e ↦ was_cut e refl ]

  once_tells : (act : Act) (f : S → A) (s : S) (acts : List Act) (o : Outcome S A) → tells act f s acts o → Once act (λ t. t) f s acts o
  once_tells act f s acts (done t w) h = was_done h.is.0 cc
  once_tells act f s acts (exits w) h = absurd h.is
  once_tells act f s acts cut h = elim h.is [ inl e ↦ not_begun e refl | inr e ↦ was_cut e refl ]

  once_agrees : (act : Act) (f : S → S) (v : S → A) (s : S) (xs ys : List Act) (o p : Outcome S A) → Once act f v s xs o → Once act f v s ys p → Agrees xs o ys p
  once_agrees act f v s xs ys o p (not_begun e k) second = left_cut ys k (ap (λ (l : List Act). l ++ ys) (sym e))
  once_agrees act f v s xs ys o p (was_cut e k) (not_begun h l) = right_cut xs l (ap (λ (l : List Act). l ++ xs) (sym h))
  once_agrees act f v s xs ys o p (was_cut e k) (was_cut h l) = same (e ∙ sym h) (k ∙ sym l)
  once_agrees act f v s xs ys o p (was_cut e k) (was_done h l) = left_cut [] k (h ∙ sym (append-nil xs ∙ e))
  once_agrees act f v s xs ys o p (was_done e k) (not_begun h l) = right_cut xs l (ap (λ (l : List Act). l ++ xs) (sym h))
  once_agrees act f v s xs ys o p (was_done e k) (was_cut h l) = right_cut [] l (e ∙ sym (append-nil ys ∙ h))
  once_agrees act f v s xs ys o p (was_done e k) (was_done h l) = same (e ∙ sym h) (k ∙ sym l)

  pub agree_updates : {act : Act} {f : S → S} {v : A} → Agree (updates act f v) (updates act f v)
  agree_updates {act} {f} {v} = record { agrees = λ s xs ys o p h k. once_agrees act f (λ t. v) s xs ys o p (once_updates act f v s xs o h) (once_updates act f v s ys p k) }

  pub agree_tells : {act : Act} {f : S → A} → Agree (tells act f) (tells act f)
  agree_tells {act} {f} = record { agrees = λ s xs ys o p h k. once_agrees act (λ t. t) f s xs ys o p (once_tells act f s xs o h) (once_tells act f s ys p k) }

  pub agree_picks : (b : Bool) {yes no_ two no_two : Behaviour S A} → Agree yes two → Agree no_ no_two → Agree (picks b yes no_) (picks b two no_two)
  agree_picks true p q = p
  agree_picks false p q = q

-- ---- what is answered

-- code that begins with this action
pub record Begins {S A : Type 0} (act : Act) (code : Behaviour S A) : Type 0 where
  pub begins : (s : S) (acts : List Act) (o : Outcome S A) → code s acts o → ((acts ≡ []) × (o ≡ cut)) ⊎ ((rest : List Act) × (acts ≡ act ∷ rest))

begins_updates : {S A : Type 0} {act : Act} {f : S → S} {v : A} → Begins act (updates act f v)
begins_updates {S} {A} {act} {f} {v} = record { begins = λ s acts o h. of s acts o (once_updates act f v s acts o h) }
  where
    of : (s : S) (acts : List Act) (o : Outcome S A) → Once act f (λ t. v) s acts o → ((acts ≡ []) × (o ≡ cut)) ⊎ ((rest : List Act) × (acts ≡ act ∷ rest))
    of s acts o (not_begun e k) = inl (e, k)
    of s acts o (was_cut e k) = inr ([], e)
    of s acts o (was_done e k) = inr ([], e)

begins_then : {S A B : Type 0} {act : Act} {f : S → S} {v : A} {next : A → Behaviour S B} → Begins act (updates act f v and_then next)
begins_then {S} {A} {B} {act} {f} {v} {next} = record { begins = λ s acts o h. of s acts o (whole_of (updates act f v) next s acts o h) }
  where
    first_of : (s : S) (acts : List Act) (o : Outcome S A) (all : Outcome S B) → Ends o all → updates act f v s acts o → ((acts ≡ []) × (all ≡ cut)) ⊎ ((rest : List Act) × (acts ≡ act ∷ rest))
    first_of s acts o all e h = elim (begins_updates.begins s acts o h) [ inl z ↦ inl (z.0, ends_is o all e z.1) | inr z ↦ inr z ]

    joined_of : (s : S) (acts : List Act) (all : Outcome S B) (g : GoesOn (updates act f v) next s acts all) → ((acts ≡ []) × (all ≡ cut)) ⊎ ((rest : List Act) × (acts ≡ act ∷ rest))
    joined_of s acts all g =
        elim (begins_updates.begins s g.front (done g.middle g.value) g.starts) [
          | inl z ↦ absurd cc
          | inr z ↦ inr (z.0 ++ g.rest, g.joined ∙ ap (λ (l : List Act). l ++ g.rest) z.1)
        ]

    of : (s : S) (acts : List Act) (o : Outcome S B) → Whole (updates act f v) next s acts o → ((acts ≡ []) × (o ≡ cut)) ⊎ ((rest : List Act) × (acts ≡ act ∷ rest))
    of s acts o (ended first e h) = first_of s acts first o e h
    of s acts o (joined g) = joined_of s acts o g

agree_begins : {S A : Type 0} {a b : Act} {code other : Behaviour S A} → IsAnswered a b → Begins a code → Begins b other → Agree code other
agree_begins {S} {A} {a} {b} {code} {other} answered f g = record { agrees = λ s xs ys o p h k. of xs ys o p (f.begins s xs o h) (g.begins s ys p k) }
  where
    of : (xs ys : List Act) (o p : Outcome S A) → ((xs ≡ []) × (o ≡ cut)) ⊎ ((rest : List Act) × (xs ≡ a ∷ rest)) → ((ys ≡ []) × (p ≡ cut)) ⊎ ((rest : List Act) × (ys ≡ b ∷ rest)) → Agrees xs o ys p
    of xs ys o p (inl e) second = left_cut ys e.1 (ap (λ (l : List Act). l ++ ys) (sym e.0))
    of xs ys o p (inr e) (inl k) = right_cut xs k.1 (ap (λ (l : List Act). l ++ xs) (sym k.0))
    of xs ys o p (inr e) (inr k) = part (record { front = []; one = a; other = b; rest = e.0; more = k.0; answered = answered; left = e.1; right = k.1 })

-- a choice between code that begins with actions that are answered differently
agree_chooses : {S A B : Type 0} {may : B → Type 0} {next later : B → Behaviour S A} → ((v w : B) → (v ≡ w) ⊎ (v ≢ w)) → ((v : B) → Agree (next v) (later v)) → ((v w : B) → v ≢ w → Agree (next v) (later w))
    → Agree (chooses may next) (chooses may later)
agree_chooses {S} {A} {B} {may} {next} {later} decide_ q differ = record { agrees = λ s xs ys o p h k. of s xs ys o p h.value k.value h.is k.is (decide_ h.value k.value) }
  where
    of : (s : S) (xs ys : List Act) (o p : Outcome S A) (v w : B) → next v s xs o → later w s ys p → (v ≡ w) ⊎ (v ≢ w) → Agrees xs o ys p
    of s xs ys o p v w h k (inl e) = (q v).agrees s xs ys o p h (subst (λ (x : B). later x s ys p) (sym e) k)
    of s xs ys o p v w h k (inr e) = (differ v w e).agrees s xs ys o p h k

option_eq : (v w : Option ℕ) → (v ≡ w) ⊎ (v ≢ w)
option_eq None None = inl refl
option_eq None (Some w) = inr (λ e. cc)
option_eq (Some v) None = inr (λ e. cc)
option_eq (Some v) (Some w) = elim (cases_eq v w) [ inl e ↦ inl (ap (λ (n : ℕ). Some n) e) | inr e ↦ inr (λ k. e cc) ]

agree_frame : {A : Type 0} {arguments values : List ℕ} {body other : Behaviour Locals A} → arguments ≡ values → Agree body other → Agree (in_frame arguments body) (in_frame values other)
agree_frame {A} {arguments} {values} {body} {other} e f =
    subst (λ (l : List ℕ). Agree (in_frame arguments body) (in_frame l other)) e (record { agrees = λ s xs ys o p h k. of s xs ys o p h.is k.is })
  where
    back : (s : Locals) (t u x y : Locals) (v w : A) → done t v ≡ done u w → x ≡ came_back s t → y ≡ came_back s u → done x v ≡ done y w
    back s t u x y v w e h k = let inner : t ≡ u = cc in let value : v ≡ w = cc in cc

    done_both : (s : Locals) (xs ys : List Act) (t u x y : Locals) (v w : A) → x ≡ came_back s t → y ≡ came_back s u → Agrees xs (done t v) ys (done u w) → Agrees xs (done x v) ys (done y w)
    done_both s xs ys t u x y v w h k (same e l) = same e (back s t u x y v w l h k)
    done_both s xs ys t u x y v w h k (left_cut more e l) = absurd cc
    done_both s xs ys t u x y v w h k (right_cut more e l) = absurd cc
    done_both s xs ys t u x y v w h k (part d) = part d

    -- the one is done, and the other is not
    done_one : (s : Locals) (xs ys : List Act) (t x : Locals) (v : A) (p : Outcome Locals A) → ((u : Locals) (w : A) → p ≢ done u w) → Agrees xs (done t v) ys p → Agrees xs (done x v) ys p
    done_one s xs ys t x v p other (same e l) = absurd (other t v (sym l))
    done_one s xs ys t x v p other (left_cut more e l) = absurd cc
    done_one s xs ys t x v p other (right_cut more e l) = right_cut more e l
    done_one s xs ys t x v p other (part d) = part d

    of : (s : Locals) (xs ys : List Act) (o p : Outcome Locals A) → InFrame arguments body s xs o → InFrame arguments other s ys p → Agrees xs o ys p
    of s xs ys (done x v) (done y w) h k = done_both s xs ys h.0 k.0 x y v w h.2 k.2 (f.agrees (entered arguments s) xs ys (done h.0 v) (done k.0 w) h.1 k.1)
    of s xs ys (done x v) (exits w) h k = done_one s xs ys h.0 x v (exits w) (λ u a e. cc) (f.agrees (entered arguments s) xs ys (done h.0 v) (exits w) h.1 k)
    of s xs ys (done x v) cut h k = done_one s xs ys h.0 x v cut (λ u a e. cc) (f.agrees (entered arguments s) xs ys (done h.0 v) cut h.1 k)
    of s xs ys (exits x) (done y w) h k = round (done_one s ys xs k.0 y w (exits x) (λ u a e. cc) (round (f.agrees (entered arguments s) xs ys (exits x) (done k.0 w) h k.1)))
    of s xs ys (exits x) (exits w) h k = f.agrees (entered arguments s) xs ys (exits x) (exits w) h k
    of s xs ys (exits x) cut h k = f.agrees (entered arguments s) xs ys (exits x) cut h k
    of s xs ys cut (done y w) h k = round (done_one s ys xs k.0 y w cut (λ u a e. cc) (round (f.agrees (entered arguments s) xs ys cut (done k.0 w) h k.1)))
    of s xs ys cut (exits w) h k = f.agrees (entered arguments s) xs ys cut (exits w) h k
    of s xs ys cut cut h k = f.agrees (entered arguments s) xs ys cut cut h k

-- ---- expressions

agree_checks : (line value : ℕ) (kind : BreakKind) → Agree (checks line value kind) (checks line value kind)
agree_checks line zero kind = agree_then agree_updates (λ v. agree_halts)
agree_checks line (suc value) kind = agree_updates

agree_assumes : (line value : ℕ) → Agree (assumes line value) (assumes line value)
agree_assumes line zero = agree_then agree_updates (λ v. agree_halts)
agree_assumes line (suc value) = agree_updates

agree_inputs : (line : ℕ) (kind : IntType) → Agree (inputs line kind) (inputs line kind)
agree_inputs line kind = agree_chooses cases_eq (λ v. agree_updates) (λ v w h. agree_begins (puts_in line v w h refl refl) begins_updates begins_updates)

agree_read : (line : ℕ) (meant : Object) (i : ℕ) → Agree (read_at line meant i) (read_at line meant i)
agree_read line (Local first len kind) i = agree_tells
agree_read line (Cell first len kind) i = agree_chooses cases_eq (λ v. agree_updates) (λ v w h. agree_begins (reads line (first + i) v w h refl refl) begins_updates begins_updates)
agree_read line (Mutex first len) i = agree_halts
agree_read line (Cond first len) i = agree_halts
agree_read line (Handle first len) i = agree_tells
agree_read line (Routine function) i = agree_value
agree_read line (Known name) i = agree_halts

agree_write : (line : ℕ) (meant : Object) (i v : ℕ) → Agree (write_at line meant i v) (write_at line meant i v)
agree_write line (Local first len kind) i v = agree_updates
agree_write line (Cell first len kind) i v = agree_updates
agree_write line (Mutex first len) i v = agree_halts
agree_write line (Cond first len) i v = agree_halts
agree_write line (Handle first len) i v = agree_halts
agree_write line (Routine function) i v = agree_halts
agree_write line (Known name) i v = agree_halts

agree_needs : (fits : Bool) → Agree (needs fits) (needs fits)
agree_needs true = agree_value
agree_needs false = agree_halts

agree_bounds : (line : ℕ) (checked fits : Bool) → Agree (bounds line checked fits) (bounds line checked fits)
agree_bounds line true fits = agree_needs fits
agree_bounds line false fits = agree_checks line (truth fits) kinds.Bounds

agree_checks_index : (line : ℕ) (meant : Object) (index : ScopedIndex) (checked : Bool) (i : ℕ) → Agree (checks_index line meant index checked i) (checks_index line meant index checked i)
agree_checks_index line meant whole checked i = agree_value
agree_checks_index line meant (element index) checked i = agree_bounds line checked (nat_lt i (len_of meant))

agree_divisor : (line : ℕ) (op : Binary) (divisor : ℕ) → Agree (checks_divisor line op divisor) (checks_divisor line op divisor)
agree_divisor line op divisor = agree_picks (is_division op) (agree_checks line divisor kinds.DivZero) agree_value

agree_decides : {A : Type 0} {line : ℕ} {test other : Behaviour Locals ℕ} {next later : Bool → Behaviour Locals A} → Agree test other → ((b : Bool) → Agree (next b) (later b)) → Agree (decides line test next) (decides line other later)
agree_decides p q = agree_then p (λ v. agree_then agree_updates q)

agree_behind : (line : ℕ) (op : Binary) (left right : IntType) {second other : Behaviour Locals ℕ} (a : ℕ) → Agree second other → Agree (behind_first line op left right second a) (behind_first line op left right other a)
agree_behind line ops.Both left right a q = agree_then agree_updates (λ v. agree_picks (is_true a) (agree_gives q) agree_value)
agree_behind line ops.Either left right a q = agree_then agree_updates (λ v. agree_picks (is_true a) agree_value (agree_gives q))
agree_behind line op left right a q = agree_then q (λ b. agree_gives (agree_divisor line op (right_operand op left right b)))

agree_known : (line : ℕ) (name : KnownName) (objects values : List ℕ) → Agree (known_trace line name objects values) (known_trace line name objects values)
agree_known line known.Assert objects values = agree_checks line (slice_index values 0) kinds.Assert
agree_known line known.Assume objects values = agree_assumes line (slice_index values 0)
agree_known line known.NondetInt objects values = agree_inputs line kind_types.Int
agree_known line known.NondetUint objects values = agree_inputs line kind_types.Unsigned
agree_known line known.Error objects values = agree_checks line 0 kinds.Reached
agree_known line known.ReachError objects values = agree_checks line 0 kinds.Reached
agree_known line known.Abort objects values = agree_assumes line 0
agree_known line known.AtomicBegin objects values = agree_updates
agree_known line known.AtomicEnd objects values = agree_updates
agree_known line known.Create objects values =
    agree_chooses cases_eq (λ d. agree_then agree_updates (λ v. agree_updates)) (λ v w h. agree_begins (makes line v w (slice_index values 1) (slice_index values 2) h refl refl) begins_then begins_then)
agree_known line known.Join objects values = agree_then agree_tells (λ d. agree_updates)
agree_known line known.Exit objects values = agree_leaves
agree_known line known.MutexInit objects values = agree_updates
agree_known line known.MutexDestroy objects values = agree_value
agree_known line known.MutexLock objects values = agree_updates
agree_known line known.MutexUnlock objects values = agree_updates
agree_known line known.CondInit objects values = agree_value
agree_known line known.CondDestroy objects values = agree_value
agree_known line known.CondWait objects values = agree_then agree_updates (λ v. agree_updates)
agree_known line known.CondSignal objects values =
    agree_chooses option_eq (λ woken. agree_updates) (λ v w h. agree_begins (wakes line (slice_index objects 0) v w h refl refl) begins_updates begins_updates)
agree_known line known.CondBroadcast objects values = agree_updates
agree_known line known.Printf objects values = agree_value

agree_locs : (line : ℕ) (values : List ℕ) → Agree (locs line values) (locs line values)
agree_locs line [] = agree_value
agree_locs line (v ∷ vs) = agree_then agree_updates (λ w. agree_locs line vs)

-- calls of which any two ways agree, and which pass their arguments in the same kinds
pub record AlikeCalls (calls others : Calls) : Type 0 where
  pub params : (function : ℕ) → calls.params function ≡ others.params function
  pub does : (function : ℕ) → Agree (calls.does function) (others.does function)

mutual
  pub agree_expression : (calls others : Calls) → AlikeCalls calls others → (e : ScopedExpression) → Agree (expression_trace calls e) (expression_trace others e)
  agree_expression calls others c (constant line value form kind) = agree_value
  agree_expression calls others c (null line kind) = agree_value
  agree_expression calls others c (text line kind) = agree_value
  agree_expression calls others c (object (lvalue line meant index checked) kind) =
      agree_then (agree_place calls others c (lvalue line meant index checked)) (λ i. agree_read line meant i)
  agree_expression calls others c (address line of kind) = agree_place calls others c of
  agree_expression calls others c (paren line inner kind) = agree_expression calls others c inner
  agree_expression calls others c (unary line op of kind) = agree_gives (agree_expression calls others c of)
  agree_expression calls others c (cast line to of kind) = agree_gives (agree_expression calls others c of)
  agree_expression calls others c (binary line op left right kind) =
      agree_then (agree_expression calls others c left)
      (λ a. agree_behind line op (kind_of left) (kind_of right) a (agree_expression calls others c right))
  agree_expression calls others c (choose line test first second kind) =
      agree_decides (agree_expression calls others c test)
      (λ yes. agree_picks yes (agree_gives (agree_expression calls others c first)) (agree_gives (agree_expression calls others c second)))
  agree_expression calls others c (assign line None (lvalue place meant index checked) value kind) =
      agree_then (agree_index calls others c index) (λ i. agree_then (agree_expression calls others c value)
      (λ v. agree_then (agree_checks_index place meant index checked i) (λ w. agree_write line meant i (converted v (kind_of value) (kind_of_object meant)))))
  agree_expression calls others c (assign line (Some op) (lvalue place meant index checked) value kind) =
      agree_then (agree_place calls others c (lvalue place meant index checked)) (λ i. agree_then (agree_read line meant i)
      (λ old. agree_then (agree_expression calls others c value) (λ b. agree_then (agree_divisor line op (right_operand op (kind_of_object meant) (kind_of value) b))
      (λ w. agree_write line meant i (assigned op (kind_of_object meant) (kind_of value) old b)))))
  agree_expression calls others c (step line (lvalue place meant index checked) up before kind) =
      agree_then (agree_place calls others c (lvalue place meant index checked)) (λ i. agree_then (agree_read line meant i)
      (λ old. agree_gives (agree_write line meant i (stepped up (kind_of_object meant) old))))
  agree_expression calls others c (call line (Routine function) args kind) =
      agree_then (agree_arguments calls others c args) (λ values. agree_then (agree_locs line values) (λ w. agree_frame (ap (λ (to : List IntType). passed (kinds_of args) to values) (c.params function)) (c.does function)))
  agree_expression calls others c (call line (Known name) args kind) =
      agree_then (agree_objects calls others c args) (λ objects. agree_then (agree_values calls others c args) (λ values. agree_known line name objects values))
  agree_expression calls others c (call line (Local first len k) args kind) = agree_halts
  agree_expression calls others c (call line (Cell first len k) args kind) = agree_halts
  agree_expression calls others c (call line (Mutex first len) args kind) = agree_halts
  agree_expression calls others c (call line (Cond first len) args kind) = agree_halts
  agree_expression calls others c (call line (Handle first len) args kind) = agree_halts

  agree_arguments : (calls others : Calls) → AlikeCalls calls others → (args : ScopedExpressions) → Agree (arguments_trace calls args) (arguments_trace others args)
  agree_arguments calls others c none = agree_value
  agree_arguments calls others c (and first rest) = agree_then (agree_expression calls others c first) (λ v. agree_gives (agree_arguments calls others c rest))

  agree_objects : (calls others : Calls) → AlikeCalls calls others → (args : ScopedExpressions) → Agree (objects_trace calls args) (objects_trace others args)
  agree_objects calls others c none = agree_value
  agree_objects calls others c (and first rest) =
      agree_picks (is_object_argument first) (agree_then (agree_handed calls others c first) (λ o. agree_gives (agree_objects calls others c rest))) (agree_objects calls others c rest)

  agree_values : (calls others : Calls) → AlikeCalls calls others → (args : ScopedExpressions) → Agree (values_trace calls args) (values_trace others args)
  agree_values calls others c none = agree_value
  agree_values calls others c (and first rest) =
      agree_picks (is_object_argument first) (agree_values calls others c rest) (agree_then (agree_expression calls others c first) (λ v. agree_gives (agree_values calls others c rest)))

  agree_handed : (calls others : Calls) → AlikeCalls calls others → (e : ScopedExpression) → Agree (handed_trace calls e) (handed_trace others e)
  agree_handed calls others c (address line of kind) = agree_gives (agree_place calls others c of)
  agree_handed calls others c (object of kind) = agree_gives (agree_place calls others c of)
  agree_handed calls others c (constant line value form kind) = agree_halts
  agree_handed calls others c (null line kind) = agree_halts
  agree_handed calls others c (text line kind) = agree_halts
  agree_handed calls others c (paren line inner kind) = agree_halts
  agree_handed calls others c (unary line op of kind) = agree_halts
  agree_handed calls others c (cast line to of kind) = agree_halts
  agree_handed calls others c (binary line op left right kind) = agree_halts
  agree_handed calls others c (choose line test first second kind) = agree_halts
  agree_handed calls others c (assign line op to value kind) = agree_halts
  agree_handed calls others c (step line of up before kind) = agree_halts
  agree_handed calls others c (call line callee args kind) = agree_halts

  agree_place : (calls others : Calls) → AlikeCalls calls others → (of : Lvalue) → Agree (place_trace calls of) (place_trace others of)
  agree_place calls others c (lvalue line meant index checked) =
      agree_then (agree_index calls others c index) (λ i. agree_gives (agree_checks_index line meant index checked i))

  agree_index : (calls others : Calls) → AlikeCalls calls others → (index : ScopedIndex) → Agree (index_trace calls index) (index_trace others index)
  agree_index calls others c whole = agree_value
  agree_index calls others c (element index) = agree_expression calls others c index

-- ---- declarations

agree_arbitrary : (line : ℕ) (kind : IntType) (i more : ℕ) → Agree (arbitrary_trace line kind i more) (arbitrary_trace line kind i more)
agree_arbitrary line kind i zero = agree_value
agree_arbitrary line kind i (suc more) = agree_then (agree_inputs 0 kind) (λ v. agree_then agree_updates (λ w. agree_arbitrary line kind (suc i) more))

agree_zeros : (line i more : ℕ) → Agree (zeros_trace line i more) (zeros_trace line i more)
agree_zeros line i zero = agree_value
agree_zeros line i (suc more) = agree_then agree_updates (λ w. agree_zeros line (suc i) more)

agree_listed : (calls others : Calls) → AlikeCalls calls others → (line : ℕ) (kind : IntType) (values : ScopedExpressions) (i more : ℕ) → Agree (listed_trace calls line kind values i more) (listed_trace others line kind values i more)
agree_listed calls others c line kind none i more = agree_zeros line i more
agree_listed calls others c line kind (and first rest) i zero = agree_value
agree_listed calls others c line kind (and first rest) i (suc more) =
    agree_then (agree_expression calls others c first) (λ v. agree_then agree_updates (λ w. agree_listed calls others c line kind rest (suc i) more))

agree_no_threads : (line i more : ℕ) → Agree (no_threads_trace line i more) (no_threads_trace line i more)
agree_no_threads line i zero = agree_value
agree_no_threads line i (suc more) = agree_then agree_updates (λ w. agree_no_threads line (suc i) more)

agree_integer : (calls others : Calls) → AlikeCalls calls others → (line first len : ℕ) (kind : IntType) (value : ScopedInitializer) → Agree (integer_trace calls line first len kind value) (integer_trace others line first len kind value)
agree_integer calls others c line first len kind nothing = agree_arbitrary line kind first len
agree_integer calls others c line first len kind (single value) = agree_then (agree_expression calls others c value) (λ v. agree_updates)
agree_integer calls others c line first len kind (listed values) = agree_listed calls others c line kind values first len

agree_object : (calls others : Calls) → AlikeCalls calls others → (line : ℕ) (meant : Object) (value : ScopedInitializer) → Agree (object_trace calls line meant value) (object_trace others line meant value)
agree_object calls others c line (Local first len kind) value = agree_integer calls others c line first len kind value
agree_object calls others c line (Cell first len kind) value = agree_halts
agree_object calls others c line (Mutex first len) value = agree_halts
agree_object calls others c line (Cond first len) value = agree_halts
agree_object calls others c line (Handle first len) value = agree_no_threads line first len
agree_object calls others c line (Routine function) value = agree_halts
agree_object calls others c line (Known name) value = agree_halts

agree_declarators : (calls others : Calls) → AlikeCalls calls others → (ds : List ScopedInitDeclarator) → Agree (declarators_trace calls ds) (declarators_trace others ds)
agree_declarators calls others c [] = agree_value
agree_declarators calls others c (d ∷ ds) = agree_then (agree_object calls others c d.line d.object d.first) (λ w. agree_declarators calls others c ds)

-- ---- statements

agree_led : (flow : Flow) {rest other : Behaviour Locals Flow} → Agree rest other → Agree (led_on flow rest) (led_on flow other)
agree_led normal p = p
agree_led breaks p = agree_value
agree_led continues p = agree_value
agree_led (returns kind value) p = agree_value

agree_turned : (flow : Flow) {rest other : Behaviour Locals Flow} → Agree rest other → Agree (turned flow rest) (turned flow other)
agree_turned normal p = p
agree_turned breaks p = agree_value
agree_turned continues p = p
agree_turned (returns kind value) p = agree_value

agree_test : (calls others : Calls) → AlikeCalls calls others → (line : ℕ) (test : Option ScopedExpression) {next later : Bool → Behaviour Locals Flow} → ((b : Bool) → Agree (next b) (later b)) → Agree (test_trace calls line test next) (test_trace others line test later)
agree_test calls others c line None q = q true
agree_test calls others c line (Some test) q = agree_decides (agree_expression calls others c test) q

agree_change : (calls others : Calls) → AlikeCalls calls others → (change : Option ScopedExpression) {rest other : Behaviour Locals Flow} → Agree rest other → Agree (change_trace calls change rest) (change_trace others change other)
agree_change calls others c None p = p
agree_change calls others c (Some change) p = agree_then (agree_expression calls others c change) (λ v. p)

agree_turns : (calls others : Calls) → AlikeCalls calls others → (line : ℕ) (test change : Option ScopedExpression) {body other : Behaviour Locals Flow} → Agree body other → (left : ℕ)
    → Agree (turns (test_trace calls line test) body (change_trace calls change) left) (turns (test_trace others line test) other (change_trace others change) left)
agree_turns calls others c line test change p zero = agree_test calls others c line test (λ again. agree_picks again agree_halts agree_value)
agree_turns calls others c line test change p (suc left) =
    agree_test calls others c line test
    (λ again. agree_picks again (agree_then p (λ flow. agree_turned flow (agree_change calls others c change (agree_turns calls others c line test change p left)))) agree_value)

agree_do_turns : (calls others : Calls) → AlikeCalls calls others → (line : ℕ) (test : Option ScopedExpression) {body other : Behaviour Locals Flow} → Agree body other → (left : ℕ)
    → Agree (do_turns (test_trace calls line test) body left) (do_turns (test_trace others line test) other left)
agree_do_turns calls others c line test p zero = agree_halts
agree_do_turns calls others c line test p (suc left) =
    agree_then p (λ flow. agree_turned flow (agree_test calls others c line test (λ again. agree_picks again (agree_do_turns calls others c line test p left) agree_value)))

agree_return : (calls others : Calls) → AlikeCalls calls others → (value : Option ScopedExpression) → Agree (return_trace calls value) (return_trace others value)
agree_return calls others c None = agree_value
agree_return calls others c (Some value) = agree_gives (agree_expression calls others c value)

mutual
  pub agree_statement : (calls others : Calls) → AlikeCalls calls others → (n : ℕ) (s : ScopedStatement) → Agree (statement_trace calls n s) (statement_trace others n s)
  agree_statement calls others c n empty = agree_value
  agree_statement calls others c n (eval value) = agree_gives (agree_expression calls others c value)
  agree_statement calls others c n (block parts) = agree_statements calls others c n parts
  agree_statement calls others c n (declare of) = agree_declarators calls others c of.declarators
  agree_statement calls others c n (when line test first second) =
      agree_decides (agree_expression calls others c test) (λ yes. agree_picks yes (agree_statement calls others c n first) (agree_branch calls others c n second))
  agree_statement calls others c n (while line test body) = agree_turns calls others c line (Some test) None (agree_statement calls others c n body) n
  agree_statement calls others c n (do_while line body test) = agree_do_turns calls others c line (Some test) (agree_statement calls others c n body) n
  agree_statement calls others c n (for line first test change body) =
      agree_then (agree_statement calls others c n first)
      (λ flow. agree_led flow (agree_turns calls others c line test change (agree_statement calls others c n body) n))
  agree_statement calls others c n (break line) = agree_value
  agree_statement calls others c n (continue line) = agree_value
  agree_statement calls others c n (return line value) = agree_return calls others c value
  agree_statement calls others c n (label name of) = agree_statement calls others c n of

  agree_branch : (calls others : Calls) → AlikeCalls calls others → (n : ℕ) (b : ScopedBranch) → Agree (branch_trace calls n b) (branch_trace others n b)
  agree_branch calls others c n absent = agree_value
  agree_branch calls others c n (branch of) = agree_statement calls others c n of

  agree_statements : (calls others : Calls) → AlikeCalls calls others → (n : ℕ) (ss : ScopedStatements) → Agree (statements_trace calls n ss) (statements_trace others n ss)
  agree_statements calls others c n nil = agree_value
  agree_statements calls others c n (cons first rest) = agree_then (agree_statement calls others c n first) (λ flow. agree_led flow (agree_statements calls others c n rest))

params_are : (p : ScopedProgram) (n depth function : ℕ) → (calls_within p n zero).params function ≡ (calls_within p n depth).params function
params_are p n zero function = refl
params_are p n (suc depth) function = refl

-- calls of a program, of any two depths
pub agree_calls : (p : ScopedProgram) (n one other : ℕ) → AlikeCalls (calls_within p n one) (calls_within p n other)
agree_calls p n zero other = record { params = λ function. params_are p n other function; does = λ function. agree_halts_left }
agree_calls p n (suc one) zero = record { params = λ function. refl; does = λ function. agree_halts_right }
agree_calls p n (suc one) (suc other) = record {
  params = λ function. refl;
  does = λ function. agree_gives (agree_statement (calls_within p n one) (calls_within p n other) (agree_calls p n one other) n (function_at p function).body);
}
