-- Rows of parameters and of external declarations, walked from left to right.
use Rattle.std.proofs.Common.{◌≡◌, ℕ, zero, suc, ◌+◌, ◌-◌, ◌<◌, ◌≤◌, Bool, true, false, not, ◌&&◌, List, [], ◌∷◌, ◌++◌, length, map, drop, get_or, slice_get, refl, sym, ap, ◌∙◌, arith, append_assoc, append-nil, drop_of_length-le}
use Rattle.lz_tree.specs.declared.expression.TypeName.{TypeName}
use Rattle.lz_tree.specs.declared.program.External.{External}
use Rattle.lz_tree.specs.declared.program.Param.{Param}
use Rattle.lz_tree.specs.Trees.{external_declaration, ExternalDeclaration}
use Rattle.lz_scopes.specs.declared.fault.Fault.{Fault}
use Rattle.lz_scopes.specs.declared.place.Place.{Place}
use Rattle.lz_scopes.specs.Files.{File}
use Rattle.lz_scopes.specs.ValueTypes.{are_one_list}
use Rattle.lz_scopes.specs.Scopes.{bases, with_param, with_params, after_external}
use Rattle.lz_base.proofs.ListLemmas.{drop_item}
use Rattle.lz_types.specs.Faults.{at, param_rules, params_faults, external_faults, externals_faults}
use Rattle.lz_types.specs.Parts.{is_one_at}
use Rattle.lz_base.proofs.BoolLemmas.{first_fails, first_holds}
use Rattle.std.proofs.lemmas.List.{drop_more}

-- ---- parameters

-- What a walk of parameters has come to at a place with some of them left.
pub record WalkedParams (file : File) (form : Bool) (start now : Place) (all left : List Param) (noted so_far : List Fault) : Type 0 where
  pub place : with_params start all ≡ with_params now left
  pub faults : noted ++ params_faults file start form all ≡ so_far ++ params_faults file now form left

pub params_more : (file : File) (form : Bool) (start now now' : Place) (all ps : List Param) (i : ℕ) (d : Param) (noted f f' : List Fault)
    → WalkedParams file form start now all (drop i ps) noted f → i < length ps
    → now' ≡ with_param now (get_or ps i d).base (get_or ps i d).name → f' ≡ f ++ at (get_or ps i d).line (param_rules file now form (get_or ps i d))
    → WalkedParams file form start now' all (drop (i + 1) ps) noted f'
unfolding params_faults
params_more file form start now now' all ps i d noted f f' w below e1 e2 =
    let p : Param = get_or ps i d in
    let n : drop i ps ≡ p ∷ drop (i + 1) ps = drop_more ps i d below in
    record {
      place = w.place ∙ rw (n, e1) refl;
      faults = w.faults ∙ rw (n, e2, e1, append_assoc f (at p.line (param_rules file now form p)) (params_faults file (with_param now p.base p.name) form (drop (i + 1) ps))) refl;
    }

pub params_end : (file : File) (form : Bool) (start now : Place) (all ps : List Param) (i : ℕ) (noted f : List Fault)
    → WalkedParams file form start now all (drop i ps) noted f → length ps ≤ i
    → (now ≡ with_params start all) × (f ≡ noted ++ params_faults file start form all)
unfolding params_faults
params_end file form start now all ps i noted f w over =
    let none : drop i ps ≡ [] = drop_of_length-le ps over in
    (sym (w.place ∙ rw none refl), sym (w.faults ∙ rw none (append-nil f)))

-- ---- types of parameters

abbrev pub ones_at : List Param → List TypeName → ℕ → Bool
ones_at ps others i = are_one_list (bases (drop i ps)) (drop i others)

-- the first of a list of parameters, and a list of types from a place on
front : (base : TypeName) (rest others : List TypeName) (i : ℕ)
    → are_one_list (base ∷ rest) (drop i others) ≡ (is_one_at base (slice_get others i) && are_one_list rest (drop (i + 1) others))
front base rest [] zero = refl
front base rest [] (suc i) = refl
front base rest (other ∷ others) zero = refl
front base rest (other ∷ others) (suc i) = let next : suc i + 1 ≡ suc (i + 1) = omega arith in rw next (front base rest others i)

ones_step : (ps : List Param) (others : List TypeName) (i : ℕ) (d : Param) → i < length ps
    → ones_at ps others i ≡ (is_one_at (get_or ps i d).base (slice_get others i) && ones_at ps others (i + 1))
ones_step ps others i d below = rw (drop_more ps i d below) (front (get_or ps i d).base (bases (drop (i + 1) ps)) others i)

pub ones_more : (ps : List Param) (others : List TypeName) (i : ℕ) (d : Param) → i < length ps
    → not (is_one_at (get_or ps i d).base (slice_get others i)) ≡ false → ones_at ps others i ≡ ones_at ps others (i + 1)
ones_more ps others i d below same =
    ones_step ps others i d below ∙ first_holds (is_one_at (get_or ps i d).base (slice_get others i)) (ones_at ps others (i + 1)) same

pub ones_not : (ps : List Param) (others : List TypeName) (i : ℕ) (d : Param) → i < length ps
    → not (is_one_at (get_or ps i d).base (slice_get others i)) ≡ true → ones_at ps others i ≡ false
ones_not ps others i d below differs =
    ones_step ps others i d below ∙ first_fails (is_one_at (get_or ps i d).base (slice_get others i)) (ones_at ps others (i + 1)) differs

-- ---- external declarations in a row

abbrev pub externals_at : List External → ℕ → List ExternalDeclaration
externals_at es i = map external_declaration (drop i es)

-- What a walk of external declarations has come to at a place with some of them left.
pub record WalkedExternals (file : File) (start now : Place) (all left : List ExternalDeclaration) (noted so_far : List Fault) : Type 0 where
  pub faults : noted ++ externals_faults file start all ≡ so_far ++ externals_faults file now left

pub externals_more : (file : File) (start now now' : Place) (all : List ExternalDeclaration) (es : List External) (i : ℕ) (e : External) (noted f f' : List Fault)
    → WalkedExternals file start now all (externals_at es i) noted f → i < length es → e ≡ get_or es i e
    → now' ≡ after_external now (external_declaration e) → f' ≡ f ++ external_faults file now (external_declaration e)
    → WalkedExternals file start now' all (externals_at es (i + 1)) noted f'
unfolding externals_faults
externals_more file start now now' all es i e noted f f' w below is e1 e2 =
    let n : externals_at es i ≡ external_declaration e ∷ externals_at es (i + 1) = ap (λ (l : List External). map external_declaration l) (drop_item es i e below is) in
    record {
      faults = w.faults ∙ rw (n, e2, e1, append_assoc f (external_faults file now (external_declaration e)) (externals_faults file (after_external now (external_declaration e)) (externals_at es (i + 1)))) refl;
    }

pub externals_end : (file : File) (start now : Place) (all : List ExternalDeclaration) (es : List External) (i : ℕ) (noted f : List Fault)
    → WalkedExternals file start now all (externals_at es i) noted f → length es ≤ i → f ≡ noted ++ externals_faults file start all
unfolding externals_faults
externals_end file start now all es i noted f w over =
    let none : externals_at es i ≡ [] = ap (λ (l : List External). map external_declaration l) (drop_of_length-le es over) in
    sym (w.faults ∙ rw none (append-nil f))
