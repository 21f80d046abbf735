-- What the bytes of a file are excludes every other case: one cut, one tree, one program, one refused token.
use Rattle.std.proofs.Common.{◌≡◌, ℕ, ◌<◌, ◌≤◌, ◌+◌, ◌⊎◌, inl, inr, List, ◌++◌, take, drop, sym, ◌∙◌, ap, subst, append_assoc, arith}
use Rattle.std.proofs.lemmas.Bool.{cases_order}
use Rattle.std.proofs.lemmas.List.{take-append-drop, take-take}
use Rattle.lz_tree.specs.declared.token.Token.{Token}
use Rattle.lz_tree.specs.declared.token.Tokens.{Tokens}
use Rattle.lz_tree.specs.Tokens.{Cutting, Cut, HasTokens, cut, whole, stopped}
use Rattle.lz_tree.specs.Trees.{TranslationUnit}
use Rattle.lz_tree.specs.Spelling.{SpellsExternals}
use Rattle.lz_expr.specs.Lines.{line_of}
use Rattle.lz_parse.specs.Programs.{IsProgram, BeginsProgram, IsRefusedAt}
use Rattle.lz_cli.specs.Source.{HasNoTokens, HasNoTree, HasTree}

-- ---- one cut

same_cutting : (a b : Cutting) → whole a ≡ whole b → a ≡ b
same_cutting a b e = cc

cut_stops : {P : Type 0} (c : Cut) (at : Cutting) (place line : ℕ) → c ≡ whole at → c ≡ stopped place line → P
cut_stops c at place line e f = absurd cc

-- no bytes have two rows of tokens
pub one_tokens : (bytes : List ℕ) (s t : Tokens) → HasTokens bytes s → HasTokens bytes t → s ≡ t
one_tokens bytes s t a b =
    let at = same_cutting a.at b.at (sym a.cut ∙ b.cut) in
    let list : s.list ≡ t.list = a.list ∙ ap (λ (c : Cutting). c.tokens) at ∙ sym b.list in
    let names : s.names ≡ t.names = a.names ∙ ap (λ (c : Cutting). c.names) at ∙ sym b.names in
    let line : s.end_line ≡ t.end_line = a.end_line ∙ ap (λ (c : Cutting). c.line) at ∙ sym b.end_line in
    let one : Tokens = record { list = t.list; names = s.names; end_line = s.end_line } in
    let two : Tokens = record { list = t.list; names = t.names; end_line = s.end_line } in
    let first : s ≡ one = ap (λ (l : List Token). let x : Tokens = record { list = l; names = s.names; end_line = s.end_line } in x) list in
    let second : one ≡ two = ap (λ (n : List (List ℕ)). let x : Tokens = record { list = t.list; names = n; end_line = s.end_line } in x) names in
    let third : two ≡ t = ap (λ (l : ℕ). let x : Tokens = record { list = t.list; names = t.names; end_line = l } in x) line in
    first ∙ second ∙ third

-- no bytes have tokens and no cut
pub no_tokens : {P : Type 0} (bytes : List ℕ) (tokens : Tokens) (line place : ℕ) → HasTokens bytes tokens → HasNoTokens bytes line place → P
no_tokens bytes tokens line place are none = cut_stops (cut bytes) are.at place line are.cut none.stops

stopped_place : (place line p l : ℕ) → stopped place line ≡ stopped p l → place ≡ p
stopped_place place line p l e = cc

stopped_line : (place line p l : ℕ) → stopped place line ≡ stopped p l → line ≡ l
stopped_line place line p l e = cc

-- the longest cut ends at one place
pub one_place : (bytes : List ℕ) (line place l p : ℕ) → HasNoTokens bytes line place → HasNoTokens bytes l p → (line ≡ l) × (place ≡ p)
one_place bytes line place l p a b =
    (stopped_line place line p l (sym a.stops ∙ b.stops), stopped_place place line p l (sym a.stops ∙ b.stops))

-- ---- one tree

abbrev pub OneTree : Type 0
OneTree = (tokens : Tokens) (p q : TranslationUnit) → IsProgram tokens p → IsProgram tokens q → p ≡ q

-- no bytes have two trees
pub one_tree : OneTree → (bytes : List ℕ) (t u : TranslationUnit) → HasTree bytes t → HasTree bytes u → t ≡ u
one_tree one bytes t u a b =
    one a.tokens t u a.spelled (subst (λ (s : Tokens). IsProgram s u) (one_tokens bytes b.tokens a.tokens b.are a.are) b.spelled)

-- no bytes have a tree and none
pub no_tree : {P : Type 0} (bytes : List ℕ) (t : TranslationUnit) (line token : ℕ) → HasTree bytes t → HasNoTree bytes line token → P
no_tree bytes t line token a none =
    absurd (none.refused.none t (subst (λ (s : Tokens). IsProgram s t) (one_tokens bytes a.tokens none.tokens a.are none.are) a.spelled))

-- ---- one refused token

-- a shorter front begins a program too
begins_shorter : (ts : List Token) (m n : ℕ) → m ≤ n → BeginsProgram (take n ts) → BeginsProgram (take m ts)
begins_shorter ts m n le b = record {
  program = b.program;
  behind = drop m (take n ts) ++ b.behind;
  well_formed = b.well_formed;
  spells = subst (SpellsExternals b.program.externals) texts b.spells;
}
  where
    texts : take n ts ++ b.behind ≡ take m ts ++ (drop m (take n ts) ++ b.behind)
    texts =
        ap (λ (u : List Token). u ++ b.behind) (sym (take-append-drop m (take n ts)) ∙ ap (λ (u : List Token). u ++ drop m (take n ts)) (take-take m n ts le))
        ∙ append_assoc (take m ts) (drop m (take n ts)) b.behind

-- a later token is not the first
not_later : (tokens : Tokens) (a k b l : ℕ) → IsRefusedAt tokens a k → IsRefusedAt tokens b l → a < b → ⊥
not_later tokens a k b l p q lt =
    let within = q.within in
    p.stops (omega arith) (begins_shorter tokens.list (a + 1) b (omega arith) q.before)

-- one token is the first with which no program goes on
pub one_refused : (tokens : Tokens) (a k b l : ℕ) → IsRefusedAt tokens a k → IsRefusedAt tokens b l → (k ≡ l) × (a ≡ b)
one_refused tokens a k b l p q = by (cases_order a b)
  where
    by : (a ≡ b) ⊎ ((a < b) ⊎ (b < a)) → (k ≡ l) × (a ≡ b)
    by (inl same) = (p.place ∙ ap (line_of tokens) same ∙ sym q.place, same)
    by (inr (inl lt)) = absurd (not_later tokens a k b l p q lt)
    by (inr (inr lt)) = absurd (not_later tokens b l a k q p lt)
