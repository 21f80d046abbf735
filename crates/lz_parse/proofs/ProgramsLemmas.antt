-- Whole programs are read exactly: what is answered spells all tokens, and the refused token is the first with which no
-- program goes on.
use Rattle.std.proofs.Common.{◌≡◌, ◌≢◌, ℕ, zero, suc, ◌+◌, ◌-◌, ◌<◌, ◌≤◌, Bool, List, [], ◌∷◌, ◌++◌, length, take, refl, sym, ap, subst, ◌∙◌, append_assoc, append-nil, arith, length-append}
use Rattle.std.specs.List.{AllByRecursion}
use Rattle.std.proofs.lemmas.List.{take_at}
use Rattle.lz_tree.specs.declared.token.Token.{Token}
use Rattle.lz_tree.specs.declared.token.Tokens.{Tokens}
use Rattle.lz_tree.specs.Spelling.{SpellsExternals}
use Rattle.lz_tree.specs.Trees.{ExternalDeclaration, TranslationUnit}
use Rattle.lz_tree.specs.Height.{greatest, external_height}
use Rattle.lz_tree.specs.WellFormed.{FitsExternal, IsWellFormed, height_limit}
use Rattle.lz_expr.specs.Fronts.{Viable}
use Rattle.lz_expr.specs.Lines.{line_of}
use Rattle.lz_expr.specs.Reading.{Outcome, gives, refused, and_then, ◌>>=◌, pure}
use Rattle.lz_expr.specs.declared.error.ParseError.{ParseError}
use Rattle.lz_expr.specs.declared.error.ParseError.TheVariants.{NotAProgram, Memory}
use Rattle.lz_expr.proofs.ExactLemmas.{Exact, exact_bind, exact_map}
use Rattle.lz_expr.proofs.RowsLemmas.{Row, made, along, row_of}
use Rattle.lz_expr.proofs.ManyLemmas.{many_text, exact_many}
use Rattle.lz_expr.proofs.WholeLemmas.{unique, refused_there, found_there}
use Rattle.lz_expr.proofs.TokensLemmas.{no_text}
use Rattle.lz_parse.specs.Grammar.{begins_external, external, more_externals, externals, closed, program, InExternal, InProgram}
use Rattle.lz_parse.specs.Programs.{IsProgram, BeginsProgram, IsRefusedAt, IsNoProgram}
use Rattle.lz_parse.specs.Views.{IsNamedAt}
use Rattle.lz_parse.proofs.ExternalsLemmas.{never, row_external, external_heads, external_begins}

-- another external declaration may always come
abbrev pub goes_on : List ExternalDeclaration → Token → Bool
goes_on es c = begins_external c

module _ (h : ℕ) where
  abbrev One : ExternalDeclaration → List Token → Type 0
  One = InExternal (suc h)

  abbrev Many : List ExternalDeclaration → List Token → Type 0
  Many = many_text begins_external One (external (suc h)) (row_external h) (external_heads h) (external_begins h)

  more_exact : Exact Many (more_externals (suc h)) goes_on
  unfolding more_externals
  more_exact = exact_many begins_external One (external (suc h)) (row_external h) (external_heads h) (external_begins h)

  abbrev behind_first : ExternalDeclaration → List ExternalDeclaration → List Token → Type 0
  behind_first x = made (λ more. x ∷ more) Many

  behind_exact : (x : ExternalDeclaration) → Exact (behind_first x) (more_externals (suc h) >>= (λ more. pure (x ∷ more))) goes_on
  behind_exact x = exact_map Many (more_externals (suc h)) goes_on more_exact (λ more. x ∷ more) (behind_first x) goes_on (λ xs u m. (xs, refl, m)) (λ es u m. m) (λ xs u c m. refl)

  abbrev Some_text : List ExternalDeclaration → List Token → Type 0
  Some_text = along One behind_first

  some_exact : Exact Some_text (external (suc h) >>= (λ x. more_externals (suc h) >>= (λ more. pure (x ∷ more)))) goes_on
  some_exact = exact_bind One (external (suc h)) never behind_first (λ x. more_externals (suc h) >>= (λ more. pure (x ∷ more))) (λ x. goes_on) (row_external h).exact behind_exact goes_on
      (λ x u m. (x ∷ [], [], ([], refl, refl)))
      (λ x es u c s m k. refl)
      (λ x es v c m e. e)
      (λ x es c m e. refl)
      (λ x es c v m e f. e)

  one_some : (x : ExternalDeclaration) (u : List Token) → One x u → u ≡ [] → ⊥
  one_some x u m e = let P : List Token → Type 0 = λ w. One x w in (row_external h).full x (subst P e m)

  some_row : Row Some_text (external (suc h) >>= (λ x. more_externals (suc h) >>= (λ more. pure (x ∷ more)))) goes_on
  some_row = record {
    exact = some_exact;
    some = (let s = (row_external h).some in (s.0 ∷ [], s.1, (s.0, (s.1, [], sym (append-nil s.1), s.2, ([], refl, refl)))));
    full = λ es m. some_full es m;
  }
    where
      some_full : (es : List ExternalDeclaration) → Some_text es [] → ⊥
      some_full es (x, (u, v, same, m, k)) = no_text u v same (one_some x u m)

  many_into : (es : List ExternalDeclaration) (u : List Token) → Many es u → (greatest external_height es ≤ suc h) × AllByRecursion FitsExternal es × SpellsExternals es u
  many_into [] u m = (omega arith, tt, m)
  many_into (x ∷ es) u (a, b, same, m, k) = let r = many_into es b k in let low = m.low in let less = r.0 in (omega arith, (m.fits, r.1), (a, b, same, m.spells, r.2))

  many_back : (es : List ExternalDeclaration) (u : List Token) → greatest external_height es ≤ suc h → AllByRecursion FitsExternal es → SpellsExternals es u → Many es u
  many_back [] u low fits m = m
  many_back (x ∷ es) u low fits (a, b, same, m, k) = (a, b, same, record { low = omega arith; fits = fits.0; spells = m }, many_back es b (omega arith) fits.1 k)

  program_into : (es : List ExternalDeclaration) (u : List Token) → Some_text es u → InProgram (suc h) es u
  program_into es u (x, (a, b, same, m, (more, is, k))) =
      let r = many_into more b k in
      let made : InProgram (suc h) (x ∷ more) u = record {
        some = λ no. cc;
        low = (let low = m.low in let less = r.0 in omega arith);
        fits = (m.fits, r.1);
        spells = (a, b, same, m.spells, r.2);
      } in
      subst (λ (y : List ExternalDeclaration). InProgram (suc h) y u) is made

  program_back : (es : List ExternalDeclaration) (u : List Token) → InProgram (suc h) es u → Some_text es u
  program_back es u m = by_list es m.some m.low m.fits m.spells
    where
      by_list : (es : List ExternalDeclaration) → es ≢ [] → greatest external_height es ≤ suc h → AllByRecursion FitsExternal es → SpellsExternals es u → Some_text es u
      by_list [] some low fits m = absurd (some refl)
      by_list (x ∷ es) some low fits (a, b, same, m, k) = (x, (a, b, same, record { low = omega arith; fits = fits.0; spells = m }, (es, refl, many_back es b (omega arith) fits.1 k)))

  pub row_externals : Row (InProgram (suc h)) (externals (suc h)) goes_on
  unfolding externals
  row_externals = row_of Some_text (external (suc h) >>= (λ x. more_externals (suc h) >>= (λ more. pure (x ∷ more)))) goes_on goes_on some_row (InProgram (suc h)) program_into program_back (λ es u c m. refl)

-- programs of at most a height that is not 0
pub exact_externals : (h : ℕ) → 0 < h → Exact (InProgram h) (externals h) goes_on
exact_externals zero some = absurd (omega arith)
exact_externals (suc h) some = (row_externals h).exact

-- ---- to the end of the tokens

-- Where a program stops to go on: one begins with what was read, none with the next token behind it, and none is spelled
-- by all.
pub record Stops (h : ℕ) (ts : List Token) (n : ℕ) : Type 0 where
  pub read : List Token
  pub left : List Token
  pub same : ts ≡ read ++ left
  pub count : n ≡ length left
  pub viable : Viable (InProgram h) read
  pub next : (c : Token) (r : List Token) → left ≡ c ∷ r → Viable (InProgram h) (read ++ c ∷ []) → ⊥
  pub none : (es : List ExternalDeclaration) → InProgram h es ts → ⊥

module _ (h : ℕ) (some : 0 < h) where
  exact : Exact (InProgram h) (externals h) goes_on
  exact = exact_externals h some

  abbrev In : List ExternalDeclaration → List Token → Type 0
  In = InProgram h

  all : (es : List ExternalDeclaration) (ts : List Token) → In es ts → externals h ts ≡ gives es []
  all es ts m = ap (externals h) (sym (append-nil ts)) ∙ exact.complete es ts [] m tt

  found_by : (ts : List Token) (o : Outcome Token (List ExternalDeclaration)) → externals h ts ≡ o → (es : List ExternalDeclaration) (left : List Token) → and_then o closed ≡ gives es left → (left ≡ []) × In es ts
  found_by ts (gives xs []) e es left k =
      let f = exact.sound ts xs [] e in
      let is : xs ≡ es = cc in
      let nil : [] ≡ left = cc in
      let read : f.read ≡ ts = sym (f.same ∙ append-nil f.read) in
      (sym nil, subst (λ (y : List ExternalDeclaration). In y ts) is (subst (λ (w : List Token). In xs w) read f.spells))
  found_by ts (gives xs (c ∷ r)) e es left k = absurd cc
  found_by ts (refused n) e es left k = absurd cc

  -- what is answered spells all tokens
  pub program_found : (ts : List Token) (es : List ExternalDeclaration) (left : List Token) → program h ts ≡ gives es left → (left ≡ []) × In es ts
  unfolding program
  program_found ts es left k = found_by ts (externals h ts) refl es left k

  stops_by : (ts : List Token) (o : Outcome Token (List ExternalDeclaration)) → externals h ts ≡ o → (n : ℕ) → and_then o closed ≡ refused n → Stops h ts n
  stops_by ts (gives xs []) e n k = absurd cc
  stops_by ts (gives xs (c ∷ r)) e n k =
      let f = exact.sound ts xs (c ∷ r) e in
      let count : suc (length r) ≡ n = cc in
      record {
        read = f.read;
        left = c ∷ r;
        same = f.same;
        count = sym count;
        viable = (xs, [], subst (λ (w : List Token). In xs w) (sym (append-nil f.read)) f.spells);
        next = λ d s is v. found_there In (externals h) goes_on exact ts xs (c ∷ r) f d s is v;
        none = λ es m. let no = all es ts m in absurd cc;
      }
  stops_by ts (refused i) e n k =
      let f = exact.refuses ts i e in
      let i_is : i ≡ n = cc in
      record {
        read = f.read;
        left = f.left;
        same = f.same;
        count = sym i_is ∙ f.count;
        viable = f.viable;
        next = λ c r is v. refused_there In (externals h) goes_on exact ts i f c r is v;
        none = λ es m. let no = all es ts m in absurd cc;
      }

  -- and a refusal is where no program goes on
  pub program_stops : (ts : List Token) (n : ℕ) → program h ts ≡ refused n → Stops h ts n
  unfolding program
  program_stops ts n k = stops_by ts (externals h ts) refl n k

-- ---- programs of the height that they may have

pub limit_some : 0 < height_limit
unfolding height_limit
limit_some = omega arith

abbrev Limited : List ExternalDeclaration → List Token → Type 0
Limited = InProgram height_limit

well_formed : (es : List ExternalDeclaration) (names : List (List ℕ)) (ts : List Token) → Limited es ts → IsWellFormed (record { externals = es; names = names })
well_formed es names ts m = record { some = m.some; fits = m.fits; low = m.low }

limited : (p : TranslationUnit) (ts : List Token) → IsWellFormed p → SpellsExternals p.externals ts → Limited p.externals ts
limited p ts w s = record { some = w.some; low = w.low; fits = w.fits; spells = s }

begins_to : (ts : List Token) → Viable Limited ts → BeginsProgram ts
begins_to ts (es, s, m) = record { program = record { externals = es; names = [] }; behind = s; well_formed = well_formed es [] (ts ++ s) m; spells = m.spells }

begins_from : (ts : List Token) → BeginsProgram ts → Viable Limited ts
begins_from ts b = (b.program.externals, b.behind, limited b.program (ts ++ b.behind) b.well_formed b.spells)

limit_is : height_limit ≡ 200
unfolding height_limit
limit_is = refl

-- what is answered with the names of the tokens is their program
pub is_program : (tokens : Tokens) (items : List Token) (es : List ExternalDeclaration) (names : List (List ℕ)) → items ≡ tokens.list → program 200 items ≡ gives es [] → names ≡ tokens.names
    → IsProgram tokens (record { externals = es; names = names })
is_program tokens items es names list e same =
    let read : program height_limit tokens.list ≡ gives es [] = subst (λ (h : ℕ). program h tokens.list ≡ gives es []) (sym limit_is) (ap (program 200) (sym list) ∙ e) in
    let f = program_found height_limit limit_some tokens.list es [] read in
    record { well_formed = well_formed es names tokens.list f.1; spells = record { externals = f.1.spells; names = same } }

stops_at : (items : List Token) (n : ℕ) → program 200 items ≡ refused n → Stops height_limit items n
stops_at items n e = program_stops height_limit limit_some items n (subst (λ (h : ℕ). program h items ≡ refused n) (sym limit_is) e)

-- no more tokens are left than there are
pub refused_within : (items : List Token) (n : ℕ) → program 200 items ≡ refused n → n ≤ length items
refused_within items n e =
    let k = stops_at items n e in
    let total : length items ≡ length k.read + length k.left = ap length k.same ∙ length-append k.read k.left in
    let count = k.count in omega arith

module _ (tokens : Tokens) (n : ℕ) (e : program 200 tokens.list ≡ refused n) where
  k : Stops height_limit tokens.list n
  k = stops_at tokens.list n e

  abbrev at : ℕ
  at = length tokens.list - n

  total : length tokens.list ≡ length k.read + length k.left
  total = ap length k.same ∙ length-append k.read k.left

  at_is : at ≡ length k.read
  at_is = let t = total in let c = k.count in omega arith

  front : take at tokens.list ≡ k.read
  front = ap (λ (w : List Token). take at w) k.same ∙ ap (λ (i : ℕ). take i (k.read ++ k.left)) at_is ∙ take_at k.read k.left (length k.read) refl

  longer : (c : Token) (r : List Token) → k.left ≡ c ∷ r → take (at + 1) tokens.list ≡ k.read ++ c ∷ []
  longer c r is =
      let wide : at + 1 ≡ length (k.read ++ c ∷ []) = (let a = at_is in let b : length (k.read ++ c ∷ []) ≡ length k.read + 1 = length-append k.read (c ∷ []) in omega arith) in
      let texts : tokens.list ≡ (k.read ++ c ∷ []) ++ r = k.same ∙ ap (λ (w : List Token). k.read ++ w) is ∙ sym (append_assoc k.read (c ∷ []) r) in
      ap (λ (w : List Token). take (at + 1) w) texts ∙ ap (λ (i : ℕ). take i ((k.read ++ c ∷ []) ++ r)) wide ∙ take_at (k.read ++ c ∷ []) r (length (k.read ++ c ∷ [])) refl

  first_left : at < length tokens.list → (c : Token) × (r : List Token) × (k.left ≡ c ∷ r)
  first_left more = by_left k.left refl
    where
      by_left : (w : List Token) → k.left ≡ w → (c : Token) × (r : List Token) × (k.left ≡ c ∷ r)
      by_left [] is = let none : length k.left ≡ 0 = ap length is in let a = at_is in let t = total in absurd (omega arith)
      by_left (c ∷ r) is = (c, r, is)

  -- what is refused is refused there
  is_refused : (line : ℕ) → line ≡ line_of tokens at → IsRefusedAt tokens at line
  is_refused line place = record {
    within = omega arith;
    before = begins_to (take at tokens.list) (subst (λ (w : List Token). Viable Limited w) (sym front) k.viable);
    stops = λ more b.
        let c = first_left more in
        k.next c.0 c.1 c.2 (subst (λ (w : List Token). Viable Limited w) (longer c.0 c.1 c.2) (begins_from (take (at + 1) tokens.list) b));
    none = λ p m. k.none p.externals (limited p tokens.list m.well_formed m.spells.externals);
    place = place;
  }

  -- and so is what names the place
  no_program_at : (error : ParseError) → IsNamedAt tokens at error → IsNoProgram tokens error
  no_program_at (NotAProgram token line) m = subst (λ (i : ℕ). IsRefusedAt tokens i line) (sym m.0) (is_refused line m.1)
  no_program_at Memory m = tt

-- an error that names the place of a refusal says that there is none
pub no_program : (tokens : Tokens) (items : List Token) (n : ℕ) (error : ParseError) → items ≡ tokens.list → program 200 items ≡ refused n → IsNamedAt tokens (length items - n) error → IsNoProgram tokens error
no_program tokens items n error list e m =
    no_program_at tokens n (ap (program 200) (sym list) ∙ e) error (subst (λ (xs : List Token). IsNamedAt tokens (length xs - n) error) list m)

-- no two well-formed programs spell the same tokens
pub one : (tokens : Tokens) (p q : TranslationUnit) → IsProgram tokens p → IsProgram tokens q → p ≡ q
one tokens p q m n =
    let same : p.externals ≡ q.externals = unique Limited (externals height_limit) goes_on (exact_externals height_limit limit_some) p.externals q.externals tokens.list (limited p tokens.list m.well_formed m.spells.externals)
    (limited q tokens.list n.well_formed n.spells.externals) in
    let names : p.names ≡ q.names = m.spells.names ∙ sym n.spells.names in
    ap (λ (es : List ExternalDeclaration). record { externals = es; names = p.names }) same ∙ ap (λ (ns : List (List ℕ)). record { externals = q.externals; names = ns }) names
