-- Arrays by `map`, and the models of their elements.
use Rattle.std.proofs.Common.{◌≡◌, ℕ, suc, ◌<◌, List, [], ◌∷◌, map, length, get_or, refl, ap, ◌∙◌, arith}
use Rattle.std.specs.Array.{IsMapOf}
use Rattle.std.specs.Fn.{Mut, Called}

pub same_images : {X Y Z : Type 0} (f : X → Z) (g : Y → Z) (xs : List X) (ys : List Y) → length ys ≡ length xs → ((i : ℕ) (d : X) (e : Y) → i < length xs → g (get_or ys i e) ≡ f (get_or xs i d)) → map g ys ≡ map f xs
same_images f g [] [] l h = refl
same_images f g [] (y ∷ ys) l h = absurd (omega arith)
same_images f g (x ∷ xs) [] l h = absurd (omega arith)
same_images f g (x ∷ xs) (y ∷ ys) l h =
    ap (λ z. z ∷ map g ys) (h 0 x y (omega arith)) ∙ ap (λ zs. f x ∷ zs) (same_images f g xs ys (omega arith) (λ i d e m. h (suc i) d e (omega arith)))

-- where each call gives what g sees as f of its argument, so does the array
pub map_is : {F X Y Z : Type 0} (c : Mut F (X × Unit {0}) Y) {h : F} (f : X → Z) (g : Y → Z) {xs : List X} {ys : List Y} {n : ℕ} → ((p : F) (x : X) (y : Y) (q : F) → Called c p (x, tt) y q → g y ≡ f x) → length xs ≡ n → IsMapOf c h xs ys n → map g ys ≡ map f xs
map_is c f g {xs} {ys} {n} one long m =
    let counted = m.long in
    same_images f g xs ys (omega arith) (λ i d e l. let k = m.at i d e (omega arith) in one k.0 (get_or xs i d) (get_or ys i e) k.1 k.2)
