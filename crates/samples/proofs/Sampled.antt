-- The model answers and shows what the Rust does, over the whole sample. Made by the harness: see docs/SAMPLES.md.
use mathlib.Core.Path.{◌≡◌, refl}
use mathlib.Core.Bool.{true}
use Rattle.std.specs.List.{list_all}
use Rattle.model.specs.Everything.{everything}
use Rattle.samples.specs.Digest.{digest}
use Rattle.samples.specs.Lists.{agrees, lists_of_calls}
use Rattle.samples.specs.Sample.{sample}
use Rattle.samples.proofs.Tests.{all_true}
use Rattle.samples.specs.Sample.List1.{case_1}
use Rattle.samples.specs.Sample.List2.{case_2}
use Rattle.samples.specs.Sample.List3.{case_3}
use Rattle.samples.specs.Sample.List4.{case_4}
use Rattle.samples.specs.Sample.List5.{case_5}
use Rattle.samples.specs.Sample.List6.{case_6}
use Rattle.samples.specs.Sample.List7.{case_7}
use Rattle.samples.specs.Sample.List8.{case_8}
use Rattle.samples.specs.Sample.List9.{case_9}
use Rattle.samples.specs.Sample.List10.{case_10}
use Rattle.samples.specs.Sample.List11.{case_11}
use Rattle.samples.specs.Sample.List12.{case_12}
use Rattle.samples.specs.Sample.List13.{case_13}
use Rattle.samples.specs.Sample.List14.{case_14}
use Rattle.samples.specs.Sample.List15.{case_15}
use Rattle.samples.specs.Sample.List16.{case_16}
use Rattle.samples.specs.Sample.List17.{case_17}
use Rattle.samples.specs.Sample.List18.{case_18}
use Rattle.samples.specs.Sample.List19.{case_19}
use Rattle.samples.specs.Sample.List20.{case_20}
use Rattle.samples.specs.Sample.List21.{case_21}
use Rattle.samples.specs.Sample.List22.{case_22}
use Rattle.samples.specs.Sample.List23.{case_23}
use Rattle.samples.specs.Sample.List24.{case_24}
use Rattle.samples.specs.Sample.List25.{case_25}
use Rattle.samples.specs.Sample.List26.{case_26}
use Rattle.samples.specs.Sample.List27.{case_27}
use Rattle.samples.specs.Sample.List28.{case_28}
use Rattle.samples.specs.Sample.List29.{case_29}
use Rattle.samples.specs.Sample.List30.{case_30}
use Rattle.samples.specs.Sample.List31.{case_31}
use Rattle.samples.specs.Sample.List32.{case_32}
use Rattle.samples.specs.Sample.List33.{case_33}

agrees-1 : agrees case_1 ≡ true
unfolding everything digest lists_of_calls
agrees-1 = refl

agrees-2 : agrees case_2 ≡ true
unfolding everything digest lists_of_calls
agrees-2 = refl

agrees-3 : agrees case_3 ≡ true
unfolding everything digest lists_of_calls
agrees-3 = refl

agrees-4 : agrees case_4 ≡ true
unfolding everything digest lists_of_calls
agrees-4 = refl

agrees-5 : agrees case_5 ≡ true
unfolding everything digest lists_of_calls
agrees-5 = refl

agrees-6 : agrees case_6 ≡ true
unfolding everything digest lists_of_calls
agrees-6 = refl

agrees-7 : agrees case_7 ≡ true
unfolding everything digest lists_of_calls
agrees-7 = refl

agrees-8 : agrees case_8 ≡ true
unfolding everything digest lists_of_calls
agrees-8 = refl

agrees-9 : agrees case_9 ≡ true
unfolding everything digest lists_of_calls
agrees-9 = refl

agrees-10 : agrees case_10 ≡ true
unfolding everything digest lists_of_calls
agrees-10 = refl

agrees-11 : agrees case_11 ≡ true
unfolding everything digest lists_of_calls
agrees-11 = refl

agrees-12 : agrees case_12 ≡ true
unfolding everything digest lists_of_calls
agrees-12 = refl

agrees-13 : agrees case_13 ≡ true
unfolding everything digest lists_of_calls
agrees-13 = refl

agrees-14 : agrees case_14 ≡ true
unfolding everything digest lists_of_calls
agrees-14 = refl

agrees-15 : agrees case_15 ≡ true
unfolding everything digest lists_of_calls
agrees-15 = refl

agrees-16 : agrees case_16 ≡ true
unfolding everything digest lists_of_calls
agrees-16 = refl

agrees-17 : agrees case_17 ≡ true
unfolding everything digest lists_of_calls
agrees-17 = refl

agrees-18 : agrees case_18 ≡ true
unfolding everything digest lists_of_calls
agrees-18 = refl

agrees-19 : agrees case_19 ≡ true
unfolding everything digest lists_of_calls
agrees-19 = refl

agrees-20 : agrees case_20 ≡ true
unfolding everything digest lists_of_calls
agrees-20 = refl

agrees-21 : agrees case_21 ≡ true
unfolding everything digest lists_of_calls
agrees-21 = refl

agrees-22 : agrees case_22 ≡ true
unfolding everything digest lists_of_calls
agrees-22 = refl

agrees-23 : agrees case_23 ≡ true
unfolding everything digest lists_of_calls
agrees-23 = refl

agrees-24 : agrees case_24 ≡ true
unfolding everything digest lists_of_calls
agrees-24 = refl

agrees-25 : agrees case_25 ≡ true
unfolding everything digest lists_of_calls
agrees-25 = refl

agrees-26 : agrees case_26 ≡ true
unfolding everything digest lists_of_calls
agrees-26 = refl

agrees-27 : agrees case_27 ≡ true
unfolding everything digest lists_of_calls
agrees-27 = refl

agrees-28 : agrees case_28 ≡ true
unfolding everything digest lists_of_calls
agrees-28 = refl

agrees-29 : agrees case_29 ≡ true
unfolding everything digest lists_of_calls
agrees-29 = refl

agrees-30 : agrees case_30 ≡ true
unfolding everything digest lists_of_calls
agrees-30 = refl

agrees-31 : agrees case_31 ≡ true
unfolding everything digest lists_of_calls
agrees-31 = refl

agrees-32 : agrees case_32 ≡ true
unfolding everything digest lists_of_calls
agrees-32 = refl

agrees-33 : agrees case_33 ≡ true
unfolding everything digest lists_of_calls
agrees-33 = refl

pub sampled : list_all agrees sample ≡ true
sampled =
    all_true agrees sample (
      agrees-1,
      (
        agrees-2,
        (
          agrees-3,
          (
            agrees-4,
            (
              agrees-5,
              (
                agrees-6,
                (
                  agrees-7,
                  (
                    agrees-8,
                    (
                      agrees-9,
                      (
                        agrees-10,
                        (
                          agrees-11,
                          (
                            agrees-12,
                            (
                              agrees-13,
                              (
                                agrees-14,
                                (
                                  agrees-15,
                                  (
                                    agrees-16,
                                    (
                                      agrees-17,
                                      (
                                        agrees-18,
                                        (
                                          agrees-19,
                                          (
                                            agrees-20,
                                            (
                                              agrees-21,
                                              (
                                                agrees-22,
                                                (
                                                  agrees-23,
                                                  (
                                                    agrees-24,
                                                    (
                                                      agrees-25,
                                                      (
                                                        agrees-26,
                                                        (
                                                          agrees-27,
                                                          (
                                                            agrees-28,
                                                            (
                                                              agrees-29,
                                                              (
                                                                agrees-30,
                                                                (
                                                                  agrees-31,
                                                                  (agrees-32, (agrees-33, tt)),
                                                                ),
                                                              ),
                                                            ),
                                                          ),
                                                        ),
                                                      ),
                                                    ),
                                                  ),
                                                ),
                                              ),
                                            ),
                                          ),
                                        ),
                                      ),
                                    ),
                                  ),
                                ),
                              ),
                            ),
                          ),
                        ),
                      ),
                    ),
                  ),
                ),
              ),
            ),
          ),
        ),
      ),
    )
