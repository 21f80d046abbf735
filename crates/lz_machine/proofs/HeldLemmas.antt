-- The calls that wait, as the items of the list that holds them.
use Rattle.std.proofs.Common.{◌≡◌, ℕ, zero, suc, List, [], ◌∷◌, ◌++◌, map, get_or, slice_get, Some, None, refl, sym, ◌∙◌, ap}
use Rattle.std.proofs.lemmas.Option.{get_or_from_slice_get}
use Rattle.std.proofs.lemmas.List.{map-append, reverse-append}
use Rattle.std.specs.Prelude.{reverse}
use Rattle.lz_base.specs.declared.word.IntType.{IntType}
use Rattle.lz_tree.specs.ScopedTrees.{ScopedDefinition, ScopedProgram}
use Rattle.lz_model.specs.CodeTraces.{passed}
use Rattle.lz_model.specs.Programs.{function_at}
use Rattle.lz_machine.specs.declared.running.Caller.{Caller}
use Rattle.lz_machine.specs.Held.{caller_of, callers_of}

-- the last of them is the innermost
pub callers_end : (ys : List Caller) (x : Caller) → callers_of (ys ++ x ∷ []) ≡ caller_of x ∷ callers_of ys
callers_end ys x = ap reverse (map-append caller_of ys (x ∷ [])) ∙ reverse-append (map caller_of ys) (caller_of x ∷ [])

pub callers_popped : {xs : List Caller} (ys : List Caller) (x : Caller) → xs ≡ ys ++ x ∷ [] → callers_of xs ≡ caller_of x ∷ callers_of ys
callers_popped ys x e = ap callers_of e ∙ callers_end ys x

-- ---- functions by their numbers

get_none : (xs : List ScopedDefinition) (i : ℕ) (d : ScopedDefinition) → None ≡ slice_get xs i → get_or xs i d ≡ d
get_none [] i d e = refl
get_none (x ∷ xs) zero d e = absurd cc
get_none (x ∷ xs) (suc i) d e = get_none xs i d e

passed_none : (kinds : List IntType) (vs : List ℕ) → passed kinds [] vs ≡ vs
passed_none [] vs = refl
passed_none (kind ∷ kinds) vs = refl

pub function_is : (p : ScopedProgram) (f : ℕ) (d : ScopedDefinition) → Some d ≡ slice_get p.functions f → function_at p f ≡ d
function_is p f d e = get_or_from_slice_get p.functions f d _ (sym e)

pub passed_to : (p : ScopedProgram) (f : ℕ) (d : ScopedDefinition) (kinds : List IntType) (vs ws : List ℕ) → Some d ≡ slice_get p.functions f → ws ≡ passed kinds d.params vs → ws ≡ passed kinds (function_at p f).params vs
passed_to p f d kinds vs ws e is = is ∙ ap (λ (x : ScopedDefinition). passed kinds x.params vs) (sym (function_is p f d e))

pub passed_to_none : (p : ScopedProgram) (f : ℕ) (kinds : List IntType) (vs : List ℕ) → None ≡ slice_get p.functions f → vs ≡ passed kinds (function_at p f).params vs
passed_to_none p f kinds vs e = sym (passed_none kinds vs) ∙ ap (λ (x : ScopedDefinition). passed kinds x.params vs) (sym (get_none p.functions f _ e))
