-- Texts that are appended one after the other.
use Rattle.std.proofs.Common.{◌≡◌, ℕ, List, ◌++◌, refl, ◌∙◌, ap, append_assoc}

pub two : (o x y a b : List ℕ) → a ≡ o ++ x → b ≡ a ++ y → b ≡ o ++ (x ++ y)
two o x y a b one next = next ∙ (ap (λ l. l ++ y) one ∙ append_assoc o x y)

pub three : (o x y z a b c : List ℕ) → a ≡ o ++ x → b ≡ a ++ y → c ≡ b ++ z → c ≡ o ++ (x ++ (y ++ z))
three o x y z a b c one next last = two (o ++ x) y z b c (next ∙ ap (λ l. l ++ y) one) last ∙ append_assoc o x (y ++ z)
