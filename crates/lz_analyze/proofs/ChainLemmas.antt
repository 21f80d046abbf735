-- Literals that are left out of a learnt clause, since the others make them false by unit propagation.
use Rattle.std.proofs.Common.{◌≡◌, ℕ, ◌⊎◌, inl, inr, ⊎_elim, List, [], ◌∷◌, ◌++◌, map}
use Rattle.std.specs.List.{Contains}
use Rattle.lz_cnf.specs.declared.clause.Lit.{Lit}
use Rattle.lz_cnf.specs.Models.{negated}
use Rattle.lz_cnf.specs.Partial.{IsConsistent, IsNamed}
use Rattle.lz_analyze.specs.Chains.{Link, IsChain}
use Rattle.lz_analyze.specs.Walks.{LeadsFrom}
use Rattle.lz_analyze.proofs.LeadsLemmas.{resolved_leads}

-- the chain's numbers stand before the hints
abbrev pub before_hints : List Link → ℕ → List ℕ → List ℕ
before_hints links next hints = map (λ (k : Link). k.number) links ++ next ∷ hints

pub chain_leads : (true_ : List Lit) (known : List (List Lit)) (have rest : Lit → Type 0) (links : List Link) (next : ℕ) (hints : List ℕ)
    → IsConsistent true_ → IsChain true_ known have links rest → LeadsFrom true_ known rest (next ∷ hints)
    → LeadsFrom true_ known have (before_hints links next hints)
chain_leads true_ known have rest [] next hints consistent chain leads =
    λ false_ are covers. leads false_ are (λ l h. covers l (chain l h))
chain_leads true_ known have rest (link ∷ []) next hints consistent chain leads =
    resolved_leads true_ known (λ l. (l ≡ negated link.lit) ⊎ have l) have link.number next hints link.lit chain.0
    consistent chain.3 chain.1 chain.2 chain.4 (λ l h. h)
    (chain_leads true_ known (λ l. (l ≡ negated link.lit) ⊎ have l) rest [] next hints consistent chain.5 leads)
chain_leads true_ known have rest (link ∷ second ∷ links) next hints consistent chain leads =
    resolved_leads true_ known (λ l. (l ≡ negated link.lit) ⊎ have l) have link.number second.number (before_hints links next hints) link.lit chain.0
    consistent chain.3 chain.1 chain.2 chain.4 (λ l h. h)
    (chain_leads true_ known (λ l. (l ≡ negated link.lit) ⊎ have l) rest (second ∷ links) next hints consistent chain.5 leads)

-- a chain grows at its end: the next clause's other literals are among those that are false by then
pub chain_push : (true_ : List Lit) (known : List (List Lit)) (have rest : Lit → Type 0) (links : List Link) (link : Link) (clause : List Lit)
    → IsChain true_ known have links rest → IsNamed known link.number clause → Contains clause link.lit → Contains true_ link.lit
    → ((l : Lit) → Contains clause l → (l ≡ link.lit) ⊎ rest l)
    → IsChain true_ known have (links ++ link ∷ []) (λ l. (l ≡ negated link.lit) ⊎ rest l)
chain_push true_ known have rest [] link clause chain named within is_true others = (
  clause,
  named,
  within,
  is_true,
  (λ l h. ⊎_elim (λ same. inl same) (λ r. inr (chain l r)) (others l h)),
  (λ l h. ⊎_elim (λ same. inl same) (λ r. inr (chain l r)) h),
)
chain_push true_ known have rest (first ∷ links) link clause chain named within is_true others = (
  chain.0,
  chain.1,
  chain.2,
  chain.3,
  chain.4,
  chain_push true_ known (λ l. (l ≡ negated first.lit) ⊎ have l) rest links link clause chain.5 named within is_true others,
)

-- fewer literals are asked for
pub chain_part : (true_ : List Lit) (known : List (List Lit)) (have rest part : Lit → Type 0) (links : List Link)
    → IsChain true_ known have links rest → ((l : Lit) → part l → rest l) → IsChain true_ known have links part
chain_part true_ known have rest part [] chain is_part = λ l h. chain l (is_part l h)
chain_part true_ known have rest part (link ∷ links) chain is_part =
    (chain.0, chain.1, chain.2, chain.3, chain.4, chain_part true_ known (λ l. (l ≡ negated link.lit) ⊎ have l) rest part links chain.5 is_part)
