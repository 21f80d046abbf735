-- Trusted: what code may do, from any kind of local values, and how it is put together of parts.
use Rattle.std.specs.Prelude.{◌≡◌, ◌⊎◌, Bool, true, false, List, [], ◌∷◌, ◌++◌}
use Rattle.lz_model.specs.Actions.{Act}

-- How code ends: it is done, with local values and a value; the thread leaves it by its end, and `whole` says
-- whether that ends the process; or it is cut, and does nothing more.
pub data Outcome (S A : Type 0) : Type 0 where
  done : (after : S) (value : A) → Outcome S A
  exits : (whole : Bool) → Outcome S A
  cut : Outcome S A

-- from these local values, the actions in order and how the code ends
abbrev pub Behaviour : Type 0 → Type 0 → Type 1
Behaviour S A = S → List Act → Outcome S A → Type 0

-- Code may be cut before its first action, between any two and after its last: each of the ways below says where.
-- Each is a record, so that its parts can be read off it.

-- ---- no action

-- a value
abbrev pub EndsWith : {S A : Type 0} → A → Behaviour S A
EndsWith value before acts (done after v) = (acts ≡ []) × (after ≡ before) × (v ≡ value)
EndsWith value before acts (exits w) = ⊥
EndsWith value before acts cut = acts ≡ []

pub record ends_with {S A : Type 0} (value : A) (before : S) (acts : List Act) (outcome : Outcome S A) : Type 0 where
  pub is : EndsWith value before acts outcome

-- nothing more
abbrev pub Halts : {S A : Type 0} → Behaviour S A
Halts before acts (done after v) = ⊥
Halts before acts (exits w) = ⊥
Halts before acts cut = acts ≡ []

pub record halts {S A : Type 0} (before : S) (acts : List Act) (outcome : Outcome S A) : Type 0 where
  pub is : Halts before acts outcome

-- the thread leaves its code
abbrev pub Leaves : {S A : Type 0} → Bool → Behaviour S A
Leaves whole before acts (done after v) = ⊥
Leaves whole before acts (exits w) = (acts ≡ []) × (w ≡ whole)
Leaves whole before acts cut = acts ≡ []

pub record leaves {S A : Type 0} (whole : Bool) (before : S) (acts : List Act) (outcome : Outcome S A) : Type 0 where
  pub is : Leaves whole before acts outcome

-- ---- one action

-- an action, a change of the local values, and a value
abbrev pub Updates : {S A : Type 0} → Act → (S → S) → A → Behaviour S A
Updates act change value before acts (done after v) = (acts ≡ act ∷ []) × (after ≡ change before) × (v ≡ value)
Updates act change value before acts (exits w) = ⊥
Updates act change value before acts cut = (acts ≡ []) ⊎ (acts ≡ act ∷ [])

pub record updates {S A : Type 0} (act : Act) (change : S → S) (value : A) (before : S) (acts : List Act) (outcome : Outcome S A) : Type 0 where
  pub is : Updates act change value before acts outcome

-- no change of the local values
abbrev pub stays : {S : Type 0} → S → S
stays s = s

-- an action, and a value that the local values give
abbrev pub Tells : {S A : Type 0} → Act → (S → A) → Behaviour S A
Tells act value before acts (done after v) = (acts ≡ act ∷ []) × (after ≡ before) × (v ≡ value before)
Tells act value before acts (exits w) = ⊥
Tells act value before acts cut = (acts ≡ []) ⊎ (acts ≡ act ∷ [])

pub record tells {S A : Type 0} (act : Act) (value : S → A) (before : S) (acts : List Act) (outcome : Outcome S A) : Type 0 where
  pub is : Tells act value before acts outcome

-- ---- parts

-- what follows for some value that may be chosen
pub record chooses {S A B : Type 0} (may : B → Type 0) (next : B → Behaviour S A) (before : S) (acts : List Act) (outcome : Outcome S A) : Type 0 where
  pub value : B
  pub fits : may value
  pub is : next value before acts outcome

-- the first part is done with a value, and what follows for that value goes on from there
pub record GoesOn {S A B : Type 0} (first : Behaviour S A) (next : A → Behaviour S B) (before : S) (acts : List Act) (outcome : Outcome S B) : Type 0 where
  pub value : A
  pub middle : S
  pub front : List Act
  pub rest : List Act
  pub joined : acts ≡ front ++ rest
  pub starts : first before front (done middle value)
  pub goes : next value middle rest outcome

-- one part after the other: a first part that is cut or left ends the whole so
abbrev pub Then : {S A B : Type 0} → Behaviour S A → (A → Behaviour S B) → Behaviour S B
Then first next before acts (done after v) = GoesOn first next before acts (done after v)
Then first next before acts (exits w) = first before acts (exits w) ⊎ GoesOn first next before acts (exits w)
Then first next before acts cut = first before acts cut ⊎ GoesOn first next before acts cut

infixr 5 ◌and_then◌
pub record ◌and_then◌ {S A B : Type 0} (first : Behaviour S A) (next : A → Behaviour S B) (before : S) (acts : List Act) (outcome : Outcome S B) : Type 0 where
  pub is : Then first next before acts outcome

-- the same, with another value where it is done
abbrev pub Gives : {S A B : Type 0} → Behaviour S A → (A → B) → Behaviour S B
Gives {S} {A} {B} first f before acts (done after v) = (value : A) × first before acts (done after value) × (v ≡ f value)
Gives first f before acts (exits w) = first before acts (exits w)
Gives first f before acts cut = first before acts cut

infixl 6 ◌gives◌
pub record ◌gives◌ {S A B : Type 0} (first : Behaviour S A) (f : A → B) (before : S) (acts : List Act) (outcome : Outcome S B) : Type 0 where
  pub is : Gives first f before acts outcome

-- the one or the other
abbrev pub picks : {S A : Type 0} → Bool → Behaviour S A → Behaviour S A → Behaviour S A
picks true chosen other = chosen
picks false chosen other = other
