-- Pieces: what each owes, and how they are put together.
use Rattle.std.proofs.Common.{◌≡◌, ℕ, zero, suc, ◌+◌, ◌≤◌, ◌<◌, inl, inr, Bool, true, false, not, cond, List, [], ◌∷◌, ◌++◌, length, eqb, refl, sym, ◌∙◌, ap, subst, arith}
use Rattle.std.specs.Prelude.{slice_index, slice_set, ⊤}
use Rattle.std.proofs.lemmas.List.{length-set}
use Rattle.lz_base.specs.Words.{value_bound}
use Rattle.lz_flat.specs.Programs.{Expression, word, sets, Location}
use Rattle.lz_flat.specs.Programs as flat
use Rattle.lz_flat.specs.Instructions.{value, put, moved, did}
use Rattle.lz_model.specs.Actions.{Act}
use Rattle.lz_model.specs.Behaviours.{Outcome, done, exits, cut, Behaviour, ends_with, ◌and_then◌, ◌gives◌, picks}
use Rattle.lz_model.specs.CodeTraces.{Locals}
use Rattle.lz_model.proofs.FrontsLemmas.{Fronts, fronts_then, fronts_gives, fronts_value}
use Rattle.lz_bound.specs.BoundedTraces.{Leaving, through, passes}
use Rattle.lz_agree.specs.Correspondence.{Corresponds, Quiet}
use Rattle.lz_agree.proofs.ActsLemmas.{but_loc_same}
use Rattle.lz_agree.proofs.CorrespondsLemmas.{corresponds_value, corresponds_then, corresponds_less, corresponds_value_quiet, corresponds_quiet_tail, corresponds_gives_left}
use Rattle.lz_sync.specs.declared.layout.Layout.{Layout}
use Rattle.lz_sync.specs.Groups.{fixed}
use Rattle.lz_sync.proofs.TellsLemmas.{word_same, word_other}
use Rattle.lz_sync.proofs.TestsLemmas.{put_fixed, value_word}
use Rattle.lz_code.specs.Structured.{puts, Code, own, seq, own_does, code_trace}
use Rattle.lz_split.specs.Deeds.{Deed, slot_deeds}
use Rattle.lz_lower.specs.Lowered.{OwnWords, own_end, Free, taken, Lowered, Piece, given, binds, maps, saved, kept}
use Rattle.lz_lower.specs.Lowers.{Holds, SameKept, Knows, Where, After}

-- What a piece owes in the place of code of the tree: where a fact stands while used words are the same, and one now.
pub record Lowers (layout : Layout) (t : ℕ) (w : OwnWords) (stable : Bool) (fact now : List ℕ → Type 0) (P : Behaviour Locals ℕ) (p : Piece) : Type 0 where
  pub grows : (free : Free) → free.word ≤ (p free).next.word
  pub fronts : Fronts P
  pub does : (free : Free) (room : ℕ) (s : Locals) (m : List ℕ) → Holds w s m → own_end w ≤ free.word → (p free).next.word ≤ room → room ≤ length m → Knows w fact free.word m → now m
      → Corresponds ⊤ P s (code_trace (slot_deeds layout t) (p free).code) m (After w stable free.word room (p free).next.word (p free).answer m)

-- ---- words that are the same
pub same_self : (w : OwnWords) (below : ℕ) (m : List ℕ) → SameKept w below m m
same_self w below m = record { same = λ p a b. refl }

pub same_on : (w : OwnWords) (below more : ℕ) (m n o : List ℕ) → below ≤ more → SameKept w below m n → SameKept w more n o → SameKept w below m o
same_on w below more m n o le a b = record { same = λ p x y. b.same p x (omega (arith, y, le)) ∙ a.same p x y }

-- ---- own code
set_does : (p : ℕ) (x : Expression) (v : ℕ) (m : List ℕ) → did (sets (fixed p) x) v m ≡ moved 0 (slice_set m p (value x m))
unfolding did
set_does p x v m = ap (λ (n : List ℕ). moved 0 n) (put_fixed p (value x m) m)

pub quiet_put : (visible : Bool) (layout : Layout) (t p : ℕ) (x : Expression) (m : List ℕ) → Quiet (code_trace (slot_deeds layout t) (own visible (puts (fixed p) x))) m through (slice_set m p (value x m))
quiet_put visible layout t p x m = record {
  opens = record { is = refl };
  can = ([], record { same = refl }, record { is = (refl, refl, (0, (let z : 0 < value_bound = omega arith in z), set_does p x 0 m)) });
  cuts = λ acts e. but_loc_same (sym e.is);
  leaves = λ acts w e. e.is;
  ends = λ acts after way e. (but_loc_same (sym e.is.0), same after (sym e.is.2.2 ∙ set_does p x e.is.2.0 m), e.is.1);
}
  where
    same : (after : List ℕ) → moved 0 after ≡ moved 0 (slice_set m p (value x m)) → after ≡ slice_set m p (value x m)
    same after e = cc

pub on_through : {P : Behaviour Locals ℕ} {s : Locals} {Q : Behaviour (List ℕ) Leaving} {m : List ℕ} {Post : ℕ → Locals → Leaving → List ℕ → Type 0} (way : Leaving) → way ≡ through
    → Corresponds ⊤ P s Q m Post → Corresponds ⊤ P s (passes way Q) m Post
on_through {P} {s} {Q} {m} {Post} way e c = subst (λ (x : Leaving). Corresponds ⊤ P s (passes x Q) m Post) (sym e) c

pub quiet_on : {m : List ℕ} {Q : Behaviour (List ℕ) Leaving} {m' : List ℕ} (way : Leaving) → way ≡ through → Quiet Q m through m' → Quiet (passes way Q) m through m'
quiet_on {m = m} {Q = Q} {m' = m'} way e q = subst (λ (x : Leaving). Quiet (passes x Q) m through m') (sym e) q

-- a word after the locals is written
pub held_beside : (w : OwnWords) (s : Locals) (m : List ℕ) (p v : ℕ) → own_end w ≤ p → Holds w s m → Holds w s (slice_set m p v)
held_beside w s m p v le h = record {
  apart = h.apart;
  locals = λ i lt. word_other m p v (w.locals_from + i) (λ e. let z : ⊥ = omega (arith, e, lt, le) in z) ∙ h.locals i lt;
  handles = λ i lt. word_other m p v (w.handles_from + i) (λ e. let a = h.apart in let z : ⊥ = omega (arith, e, lt, le, a) in z) ∙ h.handles i lt;
}

pub same_beside : (w : OwnWords) (m : List ℕ) (p v : ℕ) → SameKept w p m (slice_set m p v)
same_beside w m p v = record { same = λ q a b. word_other m p v q (λ e. let z : ⊥ = omega (arith, e, b) in z) }

-- a value that is now in an unused word
pub after_saved : (w : OwnWords) (from room p v : ℕ) (x : Expression) (before m : List ℕ) (s : Locals) → own_end w ≤ p → from ≤ p → suc p ≤ room → room ≤ length m → value x m ≡ v → Holds w s m → SameKept w from before m
    → After w true from room (suc p) (word p) before v s through (slice_set m p (value x m))
after_saved w from room p v x before m s le up most long e h k = record {
  goes = refl;
  has = there;
  holds = held_beside w s m p (value x m) le h;
  kept = same_on w from p before m (slice_set m p (value x m)) up k (same_beside w m p (value x m));
  size = let z = length-set m p (value x m) in omega (arith, z, long);
  stays = record { is = λ n q. value_word p n ∙ q.same p le (omega arith) ∙ sym (value_word p (slice_set m p (value x m))) ∙ there };
}
  where
    there : value (word p) (slice_set m p (value x m)) ≡ v
    there = value_word p (slice_set m p (value x m)) ∙ word_same m p (value x m) (omega (arith, most, long)) ∙ e

module _ {layout : Layout} {t : ℕ} {w : OwnWords} where
  -- a value that stands
  pub lowers_given : {fact now : List ℕ → Type 0} {x : Expression} {v : ℕ} (stable : Bool) → ((m : List ℕ) → fact m → now m → value x m ≡ v) → Where stable ((m : List ℕ) → fact m → value x m ≡ v)
      → Lowers layout t w stable fact now (ends_with v) (given x)
  lowers_given {fact} {now} {x} {v} stable is on = record {
    grows = λ free. omega arith;
    fronts = fronts_value;
    does = λ free room s m h le most long know n. corresponds_value (record {
      goes = refl;
      has = is m (know.is m (same_self w free.word m)) n;
      holds = h;
      kept = same_self w free.word m;
      size = long;
      stays = by stable on free.word m know;
    });
  }
    where
      by : (b : Bool) → Where b ((m : List ℕ) → fact m → value x m ≡ v) → (below : ℕ) (m : List ℕ) → Knows w fact below m → Where b (Knows w (λ n. value x n ≡ v) below m)
      by true f below m know = record { is = λ n q. f n (know.is n q) }
      by false f below m know = tt

  -- one after the other
  pub lowers_binds : {first stable : Bool} {fact now : List ℕ → Type 0} {P : Behaviour Locals ℕ} {Q : ℕ → Behaviour Locals ℕ} {p : Piece} {q : Expression → Piece} → Lowers layout t w first fact now P p
      → ((x : Expression) (v : ℕ) → Lowers layout t w stable (λ n. fact n × Where first (value x n ≡ v)) (λ n. value x n ≡ v) (Q v) (q x)) → Lowers layout t w stable fact now (P and_then Q) (binds p q)
  lowers_binds {first} {stable} {fact} {now} {P} {Q} {p} {q} a b = record {
    grows = λ free. let x = a.grows free in let y = (b (p free).answer 0).grows (p free).next in omega (arith, x, y);
    fronts = fronts_then a.fronts (λ v. (b (flat.constant 0) v).fronts);
    does = λ free room s m h le most long know n.
        let up = a.grows free in
        let more = (b (p free).answer 0).grows (p free).next in
        corresponds_then (a.does free room s m h le (omega (arith, more, most)) long know n) (λ v s1 way m1 mid. on_through way mid.goes
        (corresponds_less
        ((b (p free).answer v).does (p free).next room s1 m1 mid.holds (omega (arith, le, up)) most mid.size (record {
          is = λ n2 same. (know.is n2 (same_on w free.word (p free).next.word m m1 n2 up mid.kept same), by first (p free).answer v (p free).next.word m1 mid.stays n2 same);
        }) mid.has)
        (λ u s2 way2 m2 end. record {
          goes = end.goes;
          has = end.has;
          holds = end.holds;
          kept = same_on w free.word (p free).next.word m m1 m2 up mid.kept end.kept;
          size = end.size;
          stays = end.stays;
        })));
  }
    where
      by : (c : Bool) (x : Expression) (v below : ℕ) (m : List ℕ) → Where c (Knows w (λ n. value x n ≡ v) below m) → (n : List ℕ) → SameKept w below m n → Where c (value x n ≡ v)
      by true x v below m k n same = k.is n same
      by false x v below m k n same = tt

  -- a value is kept in a word
  pub lowers_kept : {stable : Bool} {fact now : List ℕ → Type 0} {P : Behaviour Locals ℕ} {p : Piece} → Lowers layout t w stable fact now P p → Lowers layout t w true fact now P (kept p)
  lowers_kept {stable} {fact} {now} {P} {p} a = record {
    grows = λ free. let x = a.grows free in omega (arith, x);
    fronts = a.fronts;
    does = λ free room s m h le most long know n.
        let up = a.grows free in
        corresponds_quiet_tail (a.does free room s m h le (omega (arith, most)) long know n) (λ v s1 way m1 mid. (
          through,
          slice_set m1 (p free).next.word (value (p free).answer m1),
          quiet_on way mid.goes (quiet_put false layout t (p free).next.word (p free).answer m1),
          after_saved w free.word room (p free).next.word v (p free).answer m m1 s1 (omega (arith, le, up)) up most mid.size mid.has mid.holds mid.kept,
        ));
  }

  -- another value of what stands
  pub lowers_maps : {stable : Bool} {fact now : List ℕ → Type 0} {P : Behaviour Locals ℕ} {p : Piece} (f : Expression → Expression) (g : ℕ → ℕ) → Lowers layout t w stable fact now P p
      → ((x : Expression) (v : ℕ) (m : List ℕ) → fact m → value x m ≡ v → value (f x) m ≡ g v) → Lowers layout t w stable fact now (P gives g) (maps f p)
  lowers_maps {stable} {fact} {now} {P} {p} f g a is = record {
    grows = a.grows;
    fronts = fronts_gives a.fronts;
    does = λ free room s m h le most long know n.
        let up = a.grows free in
        corresponds_gives_left (corresponds_less (a.does free room s m h le most long know n) (λ v s1 way m1 mid. record {
          goes = mid.goes;
          has = is (p free).answer v m1 (know.is m1 mid.kept) mid.has;
          holds = mid.holds;
          kept = mid.kept;
          size = mid.size;
          stays = by stable (p free).answer v free.word (p free).next.word m m1 up know mid.kept mid.stays;
        }));
  }
    where
      by : (c : Bool) (x : Expression) (v from below : ℕ) (m m1 : List ℕ) → from ≤ below → Knows w fact from m → SameKept w from m m1 → Where c (Knows w (λ n. value x n ≡ v) below m1) → Where c (Knows w (λ n. value (f x) n ≡ g v) below m1)
      by true x v from below m m1 up know same_kept k = record { is = λ n same. is x v n (know.is n (same_on w from below m m1 n up same_kept same)) (k.is n same) }
      by false x v from below m m1 up know same_kept k = tt

  -- a value that no check stands before
  pub lowers_given_gives : {fact now : List ℕ → Type 0} {x : Expression} {u v : ℕ} (stable : Bool) → ((m : List ℕ) → fact m → now m → value x m ≡ v) → Where stable ((m : List ℕ) → fact m → value x m ≡ v)
      → Lowers layout t w stable fact now (ends_with u gives λ _. v) (given x)
  lowers_given_gives {fact} {now} {x} {u} {v} stable is on = record {
    grows = λ free. omega arith;
    fronts = fronts_gives fronts_value;
    does = λ free room s m h le most long know n. corresponds_gives_left (corresponds_value (record {
      goes = refl;
      has = is m (know.is m (same_self w free.word m)) n;
      holds = h;
      kept = same_self w free.word m;
      size = long;
      stays = by stable on free.word m know;
    }));
  }
    where
      by : (b : Bool) → Where b ((m : List ℕ) → fact m → value x m ≡ v) → (below : ℕ) (m : List ℕ) → Knows w fact below m → Where b (Knows w (λ n. value x n ≡ v) below m)
      by true f below m know = record { is = λ n q. f n (know.is n q) }
      by false f below m know = tt
