-- Inner: readers of tokens from the left, made of smaller ones, and languages made of smaller ones.
use Rattle.std.specs.Prelude.{◌≡◌, ℕ, zero, suc, Bool, true, false, List, [], ◌∷◌, ◌++◌, length, Option, Some, None, if◌then◌else◌, nat_lt, ◌&&◌}

-- A value and what stands behind it, or how many tokens there are from the first one on that can't stand.
pub data Outcome (K A : Type 0) : Type 0 where
  gives : (value : A) (left : List K) → Outcome K A
  refused : (from : ℕ) → Outcome K A

abbrev pub Reader : Type 0 → Type 0 → Type 0
Reader K A = List K → Outcome K A

abbrev pub and_then : {K A B : Type 0} → Outcome K A → (A → Reader K B) → Outcome K B
and_then (gives x left) f = f x left
and_then (refused n) f = refused n

infixl 10 ◌>>=◌
abbrev pub ◌>>=◌ : {K A B : Type 0} → Reader K A → (A → Reader K B) → Reader K B
p >>= f = λ ts. and_then (p ts) f

abbrev pub pure : {K A : Type 0} → A → Reader K A
pure a = λ ts. gives a ts

abbrev pub refuse : {K A : Type 0} → Reader K A
refuse = λ ts. refused (length ts)

-- a token that shows a value
abbrev pub shown : {K A : Type 0} → K → List K → Option A → Outcome K A
shown c rest (Some x) = gives x rest
shown c rest None = refused (suc (length rest))

unfoldable pub token : {K A : Type 0} → (K → Option A) → Reader K A
token show [] = refused 0
token show (c ∷ rest) = shown c rest (show c)

-- the first token, if there is one, is of this kind
abbrev pub starts : {K : Type 0} → (K → Bool) → List K → Bool
starts p [] = false
starts p (c ∷ rest) = p c

unfoldable pub choice : {K A : Type 0} → (K → Bool) → Reader K A → Reader K A → Reader K A
choice p a b = λ ts. if starts p ts then a ts else b ts

abbrev pub mapped : {K A B : Type 0} → (A → B) → Outcome K A → Outcome K B
mapped f (gives x left) = gives (f x) left
mapped f (refused n) = refused n

unfoldable pub optional : {K A : Type 0} → (K → Bool) → Reader K A → Reader K (Option A)
optional p a = λ ts. if starts p ts then mapped Some (a ts) else gives None ts

-- ---- languages: which values which tokens spell

-- none of these tokens comes first
abbrev pub Ends : {K : Type 0} → (K → Bool) → List K → Type 0
Ends p [] = Unit {0}
Ends p (c ∷ rest) = p c ≡ false

-- ---- operators that group to the left

-- the token shows something
abbrev pub shows : {A : Type 0} → Option A → Bool
shows None = false
shows (Some x) = true

module _ {K T O : Type 0} (height : T → ℕ) (show : K → Option O) (make : ℕ → O → T → T → T) (top : ℕ) (right : Reader K T) where
  -- what was read, with more operators and operands behind it, as long as it's lower than the limit
  unfoldable pub climb : ℕ → ℕ → T → Reader K T
  climb line zero left = pure left
  climb line (suc n) left = λ ts.
      if nat_lt (height left) top && starts (λ c. shows (show c)) ts
      then (token show >>= (λ op. right >>= (λ r. climb line n (make line op left r)))) ts
      else gives left ts

-- a row of operators and operands, with the line of its first token
abbrev pub row_of_operators : {K T O : Type 0} → (T → ℕ) → (K → Option O) → (ℕ → O → T → T → T) → ℕ → (List K → ℕ) → Reader K T → Reader K T → Reader K T
row_of_operators height show make top first rt rr ts = and_then (rt ts) (climb height show make top rr (first ts) (suc top))

-- ---- lists

-- at most so many items, up to what ends them
unfoldable pub until : {K A B : Type 0} → (K → Bool) → Reader K B → Reader K A → ℕ → Reader K (List A)
until p stop item zero = stop >>= (λ b. pure [])
until p stop item (suc n) = λ ts.
    if starts p ts then (stop >>= (λ b. pure [])) ts
    else (item >>= (λ x. until p stop item n >>= (λ xs. pure (x ∷ xs)))) ts

-- what stands before the items that were read
abbrev pub behind : {K A : Type 0} → List A → Outcome K (List A) → Outcome K (List A)
behind xs (gives ys left) = gives (xs ++ ys) left
behind xs (refused n) = refused n

-- items while the next token begins one, at most so many
unfoldable pub many : {K A : Type 0} → (K → Bool) → Reader K A → ℕ → Reader K (List A)
many p item zero = pure []
many p item (suc n) = λ ts.
    if starts p ts then (item >>= (λ x. many p item n >>= (λ xs. pure (x ∷ xs)))) ts
    else gives [] ts

-- a tree that grows by each token that it grows by, at most so many
unfoldable pub grown : {K T : Type 0} → (T → K → Option T) → ℕ → T → Reader K T
grown grow zero t = pure t
grown grow (suc n) t = λ ts.
    if starts (λ c. shows (grow t c)) ts then (token (grow t) >>= grown grow n) ts
    else gives t ts
