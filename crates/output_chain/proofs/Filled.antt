-- What `array::from_fn` makes, where a call leaves its closure as it was.
use Rattle.std.proofs.Common.{◌≡◌, ℕ, zero, suc, ◌+◌, ◌<◌, ◌≤◌, List, map, length, get_or, ap, ◌∙◌, subst, inl, inr, arith}
use Rattle.std.specs.Array.{IsFromFnResultFrom, IsFromFnResult}
use Rattle.std.specs.Fn.{Called}
use Rattle.std.specs.List.{range_with_len}
use Rattle.std.proofs.lemmas.Bool.{cases_eq}
use Rattle.std.proofs.lemmas.List.{get_or-map, length-map}
use Rattle.std.proofs.lemmas.List.FromFn.{fill_by_all}
use denote.Param.Members.{Mut}

module _ {F B X : Type 0} {g : Mut F (ℕ × Unit {0}) B} {f : F} (view : B → X) (made : ℕ → X) (m : ℕ) (call : (k : ℕ) (y : B) (q : F) → k < m → Called g f (k, tt) y q → (q ≡ f) × (view y ≡ made k)) where
  made_at : (ys : List B) (i n : ℕ) → i + n ≤ length ys → i + n ≤ m → IsFromFnResultFrom g f ys i n → (k : ℕ) (d : X) → i ≤ k → k < i + n → get_or (map view ys) k d ≡ made k
  made_at ys i zero long few h k d low high = absurd (omega arith)
  made_at ys i (suc n) long few (q, y, is, called, rest) k d low high =
      let c = call i y q (omega (arith, few)) called in
      elim (cases_eq i k) [
        | inl e ↦ subst (λ j. get_or (map view ys) j d ≡ made j) e (get_or-map view ys i y d (omega (arith, long)) ∙ ap view is.0 ∙ c.1)
        | inr ne ↦ made_at ys (i + 1) n (omega (arith, long)) (omega (arith, few)) (subst (λ p. IsFromFnResultFrom g p ys (i + 1) n) c.0 rest) k d (omega (arith, low, ne)) (omega (arith, high))
      ]

  pub made_map : {ys : List B} → IsFromFnResult g f ys m → map view ys ≡ map made (range_with_len 0 m)
  made_map {ys} h = fill_by_all made (map view ys) m (made 0) (length-map ys view ∙ h.long) (λ k l. made_at ys 0 m (let e = h.long in omega (arith, e)) (omega arith) h.each k (made 0) (omega arith) (omega (arith, l)))
