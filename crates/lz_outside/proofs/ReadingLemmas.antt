-- What the pieces of a file make, one after another.
use Rattle.std.proofs.Common.{◌≡◌, ℕ, ◌+◌, ◌<◌, ◌≤◌, List, ◌++◌, Option, Some, None, length, take, drop, ap, sym, ◌∙◌, subst, arith, inl, inr, length-append, length-take, length-drop, append-nil}
use Rattle.std.proofs.lemmas.List.{take_all, take_at, length-take-le}
use Rattle.std.proofs.Math.Seq.{take-add}
use Rattle.lz_outside.specs.Files.{FileMap, BeginsWith, GivesPiece, Holds, IsPieceOf}

-- one name has one content
same_content : (o : Option (List ℕ)) (a b : List ℕ) → o ≡ Some a → o ≡ Some b → a ≡ b
same_content o a b h k = cc

-- as many bytes stand in the content as were given
length_given : (content : List ℕ) (place n : ℕ) (before after : List ℕ) →
    IsPieceOf content place n before after → length (take n (drop place content)) ≡ n
length_given content place n before after p =
    elim p.within [
      | inl w ↦ length-take-le n (drop place content) (omega (arith, length-drop place content))
      | inr z ↦ omega (arith, length-take n (drop place content))
    ]

-- the front of the buffer is what was given
front_of : (content : List ℕ) (place n : ℕ) (before after : List ℕ) →
    IsPieceOf content place n before after → take n after ≡ take n (drop place content)
front_of content place n before after p =
    ap (λ (x : List ℕ). take n x) p.copied
    ∙ take_at (take n (drop place content)) (drop n before) n (length_given content place n before after p)

longer : (content bytes : List ℕ) (n : ℕ) (before after : List ℕ) →
    bytes ≡ take (length bytes) content → IsPieceOf content (length bytes) n before after →
    bytes ++ take n after ≡ take (length (bytes ++ take n after)) content
longer content bytes n before after b p =
    let f : take n after ≡ take n (drop (length bytes) content) = front_of content (length bytes) n before after p in
    let t : take (length bytes + n) content ≡ bytes ++ take n after =
    take-add (length bytes) n content ∙ ap (λ (x : List ℕ). x ++ take n (drop (length bytes) content)) (sym b)
    ∙ ap (λ (x : List ℕ). bytes ++ x) (sym f) in
    let k : length (bytes ++ take n after) ≡ length bytes + n =
    length-append bytes (take n after)
    ∙ ap (λ (x : ℕ). length bytes + x)
    (ap (λ (x : List ℕ). length x) f ∙ length_given content (length bytes) n before after p) in
    sym t ∙ ap (λ (x : ℕ). take x content) (sym k)

-- a piece from where the bytes end makes a longer front
pub BeginsWith-more : (files : Option FileMap) (name bytes more : List ℕ) (place n : ℕ) (before after : List ℕ) →
    place ≡ length bytes → more ≡ bytes ++ take n after →
    BeginsWith files name bytes → GivesPiece files name place n before after → BeginsWith files name more
BeginsWith-more None name bytes more place n before after e m b p = tt
BeginsWith-more (Some told) name bytes more place n before after e m b p =
    λ content h.
    let c : p.0 ≡ content = same_content (told name) p.0 content p.1 h in
    let q : IsPieceOf content place n before after =
    subst (λ (x : List ℕ). IsPieceOf x place n before after) c p.2 in
    let q : IsPieceOf content (length bytes) n before after =
    subst (λ (x : ℕ). IsPieceOf content x n before after) e q in
    rw m (longer content bytes n before after (b content h) q)

-- a read from where the bytes end that gives nothing shows that they are the whole file
pub Holds-at_end : (files : Option FileMap) (name bytes more : List ℕ) (place n : ℕ) (before after : List ℕ) →
    place ≡ length bytes → more ≡ bytes ++ take n after → n ≡ 0 → 0 < length before →
    BeginsWith files name bytes → GivesPiece files name place n before after → Holds files name more
Holds-at_end None name bytes more place n before after e m z s b p = tt
Holds-at_end (Some told) name bytes more place n before after e m z s b p =
    let l : length p.0 ≤ length bytes = elim (p.2.nothing z) [ inl h ↦ omega arith | inr h ↦ absurd (omega arith) ] in
    let t : bytes ≡ p.0 = b p.0 p.1 ∙ take_all (length bytes) p.0 l in
    let a : more ≡ bytes = m ∙ ap (λ (x : ℕ). bytes ++ take x after) z ∙ append-nil bytes in
    p.1 ∙ ap (λ (x : List ℕ). Some x) (sym (a ∙ t))
