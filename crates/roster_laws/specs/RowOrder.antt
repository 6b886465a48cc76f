-- The order of rows: by the first day on which they differ, and on that day by the order of the choices.
use Rattle.std.specs.Prelude.{◌≡◌, List, ◌∷◌, ◌++◌}

-- x comes before y in this list
pub record StandsBefore {A : Type 0} (items : List A) (x y : A) : Type 0 where
  pub front : List A
  pub between : List A
  pub back : List A
  pub split : items ≡ front ++ x ∷ (between ++ y ∷ back)

-- a and b are equal up to some day, and on that day a has the earlier item
pub record IsEarlier {A : Type 0} (items : List A) (a b : List A) : Type 0 where
  pub same : List A
  pub item_of_a : A
  pub item_of_b : A
  pub rest_of_a : List A
  pub rest_of_b : List A
  pub a_is : a ≡ same ++ item_of_a ∷ rest_of_a
  pub b_is : b ≡ same ++ item_of_b ∷ rest_of_b
  pub before : StandsBefore items item_of_a item_of_b
