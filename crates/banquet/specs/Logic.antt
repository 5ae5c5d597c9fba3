-- Two facts at once, and statements that follow from each other. Assumes nothing.

infixr 30 ◌and◌
-- for facts about the entries of a list one after the other, which end with `tt`
abbrev pub ◌and◌ : {A B : Type 0} → A → B → A × B
a and b = (a, b)

infix 10 ◌⇔◌
abbrev pub ◌⇔◌ : Type 0 → Type 0 → Type 0
A ⇔ B = (A → B) × (B → A)
