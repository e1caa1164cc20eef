-- The words of tuples, by their widths: each is the word of its nested pairs, in the shape of a tuple.
use Rattle.nom_traits.specs.Input.{Model}
use Rattle.nom_internal.specs.Word.{Word}
use Rattle.nom_internal.specs.Words.{pair_of, tuple_of}

module _ {I T E : Type 0} (w : Model I T) where
  abbrev pub tuple_of_two : {A B : Type 0} → Word I A E → Word I B E → Word I (A × B) E
  tuple_of_two a b = tuple_of (λ o. (o.0, o.1)) (pair_of w a b)

  abbrev pub tuple_of_three : {A B C : Type 0} → Word I A E → Word I B E → Word I C E → Word I (A × B × C) E
  tuple_of_three a b c = tuple_of (λ o. (o.0, (o.1, o.2))) (pair_of w a (pair_of w b c))

  abbrev pub tuple_of_four : {A B C D : Type 0} → Word I A E → Word I B E → Word I C E → Word I D E → Word I (A × B × C × D) E
  tuple_of_four a b c d = tuple_of (λ o. (o.0, (o.1, (o.2, o.3)))) (pair_of w a (pair_of w b (pair_of w c d)))

  abbrev pub tuple_of_five : {A B C D F : Type 0} → Word I A E → Word I B E → Word I C E → Word I D E → Word I F E → Word I (A × B × C × D × F) E
  tuple_of_five a b c d f = tuple_of (λ o. (o.0, (o.1, (o.2, (o.3, o.4))))) (pair_of w a (pair_of w b (pair_of w c (pair_of w d f))))

  abbrev pub tuple_of_six : {A B C D F G : Type 0} → Word I A E → Word I B E → Word I C E → Word I D E → Word I F E → Word I G E →
      Word I (A × B × C × D × F × G) E
  tuple_of_six a b c d f g = tuple_of (λ o. (o.0, (o.1, (o.2, (o.3, (o.4, o.5)))))) (pair_of w a (pair_of w b (pair_of w c (pair_of w d (pair_of w f g)))))

  abbrev pub tuple_of_seven : {A B C D F G H : Type 0} → Word I A E → Word I B E → Word I C E → Word I D E → Word I F E → Word I G E → Word I H E →
      Word I (A × B × C × D × F × G × H) E
  tuple_of_seven a b c d f g h = tuple_of (λ o. (o.0, (o.1, (o.2, (o.3, (o.4, (o.5, o.6)))))))
      (pair_of w a (pair_of w b (pair_of w c (pair_of w d (pair_of w f (pair_of w g h))))))

  abbrev pub tuple_of_eight : {A B C D F G H J : Type 0} → Word I A E → Word I B E → Word I C E → Word I D E → Word I F E → Word I G E →
      Word I H E → Word I J E → Word I (A × B × C × D × F × G × H × J) E
  tuple_of_eight a b c d f g h j = tuple_of (λ o. (o.0, (o.1, (o.2, (o.3, (o.4, (o.5, (o.6, o.7))))))))
      (pair_of w a (pair_of w b (pair_of w c (pair_of w d (pair_of w f (pair_of w g (pair_of w h j)))))))
