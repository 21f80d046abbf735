-- With which tokens an expression goes on that was read up to a height, and with which it does not.
use Rattle.std.proofs.Common.{◌≡◌, ℕ, zero, suc, ◌≤◌, Bool, true, false, Option, Some, None, refl, ap, ◌∙◌, arith, nat_lt}
use Rattle.std.specs.Prelude.{if◌then◌else◌, ◌&&◌, ◌||◌, ◌==◌}
use Rattle.std.proofs.lemmas.Bool.{or_parts, or_from, and_right}
use Rattle.lz_tree.specs.declared.token.Token.{Token}
use Rattle.lz_tree.specs.declared.token.TokenKind.{TokenKind}
use Rattle.lz_tree.specs.declared.token.TokenKind.TheVariants as kinds
use Rattle.lz_tree.specs.declared.token.Punct.{Punct}
use Rattle.lz_tree.specs.declared.token.Punct.TheVariants as marks
use Rattle.lz_base.specs.declared.operator.Binary.{Binary}
use Rattle.lz_tree.specs.Languages.{is_mark, is_mark_kind, same_mark, mark_shown, meant_by, mark_in}
use Rattle.lz_tree.specs.Spelling.{operator_of, assigning_of, step_of}
use Rattle.lz_tree.specs.Trees.{Expression, object, address, unary, cast, binary, choose, assign, step, Index, whole, element}
use Rattle.lz_tree.specs.Height.{expression_height}
use Rattle.lz_tree.specs.WellFormed.{level}
use Rattle.lz_expr.specs.Reading.{shows}
use Rattle.lz_expr.specs.Grammar.{operator_shown, of_level, step_shown, is_object, is_whole}
use Rattle.lz_expr.proofs.TokensLemmas.{shows_lined, mark_kind_is}

abbrev pub below : ℕ → ℕ
below zero = zero
below (suc h) = h

-- ---- behind an expression whose parts have at most the height h

-- behind a name that stands last, an index
abbrev pub target_goes : ℕ → Expression → Token → Bool
target_goes h (object line n whole) k = nat_lt 0 h && is_mark marks.OpenBracket k
target_goes h (address line at n whole) k = nat_lt 0 h && is_mark marks.OpenBracket k
target_goes h (step line at n whole up true) k = nat_lt 0 h && is_mark marks.OpenBracket k
target_goes h e k = false

-- behind a target, the arguments of a call
abbrev pub called_goes : ℕ → Expression → Token → Bool
called_goes h (object line n i) k = target_goes h (object line n i) k || (is_whole (object line n i) && is_mark marks.OpenParen k)
called_goes h e k = false

-- and `++` or `--`
abbrev pub named_goes : ℕ → Expression → Token → Bool
named_goes h (object line n i) k = called_goes h (object line n i) k || (true && shows (step_shown k))
named_goes h e k = false

abbrev pub prefix_goes : ℕ → Expression → Token → Bool
prefix_goes h (object line n i) k = named_goes h (object line n i) k
prefix_goes h (address line at n i) k = target_goes h (address line at n i) k
prefix_goes h (step line at n i up before) k = target_goes h (step line at n i up before) k
prefix_goes h (unary line op e) k = prefix_goes (below h) e k
prefix_goes h (cast line to e) k = prefix_goes (below h) e k
prefix_goes h e k = false

abbrev pub right_of : Expression → Expression
right_of (binary line op l r) = r
right_of e = e

-- behind a unary expression or one of a binary level
abbrev pub goes : ℕ → ℕ → Expression → Token → Bool
goes h zero e k = prefix_goes h e k
goes h (suc c) e k = (if nat_lt c (level e) then goes (below h) c (right_of e) k else goes h c e k) || (nat_lt (expression_height e) (suc h) && shows (operator_shown (suc c) k))

abbrev pub choose_goes : ℕ → Expression → Token → Bool
choose_goes h (choose line a b c) k = choose_goes (below h) c k
choose_goes h e k = goes h 10 e k || (nat_lt (expression_height e) (suc h) && is_mark marks.Question k)

abbrev pub assign_goes : ℕ → Expression → Token → Bool
assign_goes h (assign line op at n i v) k = assign_goes (below h) v k
assign_goes h e k = choose_goes h e k || ((is_object e && nat_lt 0 h) && shows (meant_by assigning_of k))

-- by class: 0 for unary, 1 to 10 for the binary levels, 11 for choose and 12 for assign
abbrev pub class_goes : ℕ → ℕ → Expression → Token → Bool
class_goes h c = if c == 12 then assign_goes h else if c == 11 then choose_goes h else goes h c

-- ---- tokens that go on with nothing

-- The token is no bracket, parenthesis or step.
pub record Flat (k : Token) : Type 0 where
  pub bracket : is_mark marks.OpenBracket k ≡ false
  pub parenthesis : is_mark marks.OpenParen k ≡ false
  pub stepping : shows (step_shown k) ≡ false

-- No expression goes on with the token.
pub record Quiet (k : Token) : Type 0 where
  pub flat : Flat k
  pub operator : meant_by operator_of k ≡ None
  pub question : is_mark marks.Question k ≡ false
  pub assigning : shows (meant_by assigning_of k) ≡ false

either_same : (a : Bool) → (if a then false else false) ≡ false
either_same true = refl
either_same false = refl

object_flat : (h : ℕ) (line n : ℕ) (i : Index) (k : Token) → Flat k → named_goes h (object line n i) k ≡ false
object_flat h line n whole k f = or_from _ _ (or_from _ _ (and_right (nat_lt 0 h) _ f.bracket) f.parenthesis) f.stepping
object_flat h line n (element i) k f = f.stepping

address_flat : (h : ℕ) (line at n : ℕ) (i : Index) (k : Token) → Flat k → target_goes h (address line at n i) k ≡ false
address_flat h line at n whole k f = and_right (nat_lt 0 h) _ f.bracket
address_flat h line at n (element i) k f = refl

step_flat : (h : ℕ) (line at n : ℕ) (i : Index) (up before : Bool) (k : Token) → Flat k → target_goes h (step line at n i up before) k ≡ false
step_flat h line at n whole up true k f = and_right (nat_lt 0 h) _ f.bracket
step_flat h line at n whole up false k f = refl
step_flat h line at n (element i) up before k f = refl

prefix_flat : (h : ℕ) (e : Expression) (k : Token) → Flat k → prefix_goes h e k ≡ false
prefix_flat h (object line n i) k f = object_flat h line n i k f
prefix_flat h (address line at n i) k f = address_flat h line at n i k f
prefix_flat h (step line at n i up before) k f = step_flat h line at n i up before k f
prefix_flat h (unary line op e) k f = prefix_flat (below h) e k f
prefix_flat h (cast line to e) k f = prefix_flat (below h) e k f
prefix_flat h _ k f = refl

-- no binary level goes on with a token that is flat and no operator of a level up to this one
pub goes_flat : (h c : ℕ) (e : Expression) (k : Token) → Flat k → ((n : ℕ) → n ≤ c → shows (operator_shown n k) ≡ false) → goes h c e k ≡ false
goes_flat h zero e k f none = prefix_flat h e k f
goes_flat h (suc c) e k f none =
    let less = λ (n : ℕ) (l : n ≤ c). none n (omega arith) in
    or_from _ _ (rw (goes_flat h c e k f less, goes_flat (below h) c (right_of e) k f less) (either_same (nat_lt c (level e)))) (and_right (nat_lt (expression_height e) (suc h)) _ (none (suc c) (omega arith)))

no_level : (n : ℕ) (o : Option Binary) → o ≡ None → shows (of_level n o) ≡ false
no_level n o h = rw h refl

pub goes_quiet : (h c : ℕ) (e : Expression) (k : Token) → Flat k → meant_by operator_of k ≡ None → goes h c e k ≡ false
unfolding operator_shown
goes_quiet h c e k f none = goes_flat h c e k f (λ n l. no_level n (meant_by operator_of k) none)

pub choose_quiet : (h : ℕ) (e : Expression) (k : Token) → Flat k → meant_by operator_of k ≡ None → is_mark marks.Question k ≡ false → choose_goes h e k ≡ false
choose_quiet h (choose line a b c) k f none q = choose_quiet (below h) c k f none q
choose_quiet h e k f none q = or_from _ _ (goes_quiet h 10 e k f none) (and_right (nat_lt (expression_height e) (suc h)) _ q)

assign_quiet : (h : ℕ) (e : Expression) (k : Token) → Quiet k → assign_goes h e k ≡ false
assign_quiet h (assign line op at n i v) k q = assign_quiet (below h) v k q
assign_quiet h e k q = or_from _ _ (choose_quiet h e k q.flat q.operator q.question) (and_right (is_object e && nat_lt 0 h) _ q.assigning)

-- no expression goes on with a quiet token
pub class_quiet : (h c : ℕ) (e : Expression) (k : Token) → Quiet k → class_goes h c e k ≡ false
class_quiet h c e k q = by_class (c == 12) (c == 11)
  where
    by_class : (a b : Bool) → (if a then assign_goes h else if b then choose_goes h else goes h c) e k ≡ false
    by_class true b = assign_quiet h e k q
    by_class false true = choose_quiet h e k q.flat q.operator q.question
    by_class false false = goes_quiet h c e k q.flat q.operator

-- ---- which tokens are quiet

-- the kind is no bracket, parenthesis or step
abbrev pub is_flat : TokenKind → Bool
is_flat k = (is_mark_kind marks.OpenBracket k || is_mark_kind marks.OpenParen k) || shows (mark_in step_of k)

pub flat_of : (k : Token) → is_flat k.kind ≡ false → Flat k
unfolding is_mark meant_by
flat_of k h =
    let marks_of = (or_parts (is_mark_kind marks.OpenBracket k.kind || is_mark_kind marks.OpenParen k.kind) (shows (mark_in step_of k.kind)) h).0 in
    record {
      bracket = (or_parts (is_mark_kind marks.OpenBracket k.kind) (is_mark_kind marks.OpenParen k.kind) marks_of).0;
      parenthesis = (or_parts (is_mark_kind marks.OpenBracket k.kind) (is_mark_kind marks.OpenParen k.kind) marks_of).1;
      stepping = shows_lined (meant_by step_of) k ∙ (or_parts (is_mark_kind marks.OpenBracket k.kind || is_mark_kind marks.OpenParen k.kind) (shows (mark_in step_of k.kind)) h).1;
    }

-- the kind is one with which an expression goes on
abbrev pub is_loud : TokenKind → Bool
is_loud k = is_flat k || (shows (mark_in operator_of k) || (is_mark_kind marks.Question k || shows (mark_in assigning_of k)))

no_shown : {A : Type 0} (o : Option A) → shows o ≡ false → o ≡ None
no_shown None h = refl
no_shown (Some x) h = absurd cc

pub quiet_of : (k : Token) → is_loud k.kind ≡ false → Quiet k
unfolding is_mark meant_by
quiet_of k h =
    let more = (or_parts (is_flat k.kind) (shows (mark_in operator_of k.kind) || (is_mark_kind marks.Question k.kind || shows (mark_in assigning_of k.kind))) h).1 in
    let last = (or_parts (shows (mark_in operator_of k.kind)) (is_mark_kind marks.Question k.kind || shows (mark_in assigning_of k.kind)) more).1 in
    record {
      flat = flat_of k (or_parts (is_flat k.kind) (shows (mark_in operator_of k.kind) || (is_mark_kind marks.Question k.kind || shows (mark_in assigning_of k.kind))) h).0;
      operator = no_shown (mark_in operator_of k.kind) (or_parts (shows (mark_in operator_of k.kind)) (is_mark_kind marks.Question k.kind || shows (mark_in assigning_of k.kind)) more).0;
      question = (or_parts (is_mark_kind marks.Question k.kind) (shows (mark_in assigning_of k.kind)) last).0;
      assigning = (or_parts (is_mark_kind marks.Question k.kind) (shows (mark_in assigning_of k.kind)) last).1;
    }

-- no expression goes on with a punctuator that is not loud
pub stops : (p : Punct) → is_loud (kinds.Punct p) ≡ false → (h c : ℕ) (e : Expression) (k : Token) (x : ℕ) → mark_shown p k ≡ Some x → class_goes h c e k ≡ false
stops p l h c e k x shown = class_quiet h c e k (quiet_of k (ap is_loud (mark_kind_is p k x shown) ∙ l))

pub close_paren_stops : (h c : ℕ) (e : Expression) (k : Token) (x : ℕ) → mark_shown marks.CloseParen k ≡ Some x → class_goes h c e k ≡ false
unfolding same_mark
close_paren_stops = stops marks.CloseParen refl

pub close_bracket_stops : (h c : ℕ) (e : Expression) (k : Token) (x : ℕ) → mark_shown marks.CloseBracket k ≡ Some x → class_goes h c e k ≡ false
unfolding same_mark
close_bracket_stops = stops marks.CloseBracket refl

pub close_brace_stops : (h c : ℕ) (e : Expression) (k : Token) (x : ℕ) → mark_shown marks.CloseBrace k ≡ Some x → class_goes h c e k ≡ false
unfolding same_mark
close_brace_stops = stops marks.CloseBrace refl

pub comma_stops : (h c : ℕ) (e : Expression) (k : Token) (x : ℕ) → mark_shown marks.Comma k ≡ Some x → class_goes h c e k ≡ false
unfolding same_mark
comma_stops = stops marks.Comma refl

pub semicolon_stops : (h c : ℕ) (e : Expression) (k : Token) (x : ℕ) → mark_shown marks.Semicolon k ≡ Some x → class_goes h c e k ≡ false
unfolding same_mark
semicolon_stops = stops marks.Semicolon refl

pub colon_stops : (h c : ℕ) (e : Expression) (k : Token) (x : ℕ) → mark_shown marks.Colon k ≡ Some x → class_goes h c e k ≡ false
unfolding same_mark
colon_stops = stops marks.Colon refl
