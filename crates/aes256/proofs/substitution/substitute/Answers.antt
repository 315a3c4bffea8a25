use Rattle.std.proofs.Common.{ℕ, List, [], ◌∷◌, refl, slice_index}
use Rattle.aes256.specs.Planes.{byte_at, lanes_at}
use Rattle.aes256.proofs.Circuit.{Follows}
use Rattle.aes256.proofs.Gates.{s_box_gates, substituted}
use Rattle.aes256.proofs.substitution.substitute.Goals as goal

pub returns : goal.returns
unfolding byte_at
returns c = λ k p _ below.
    let ns : List ℕ =
    slice_index c.xor-y14.result p ∷ slice_index c.xor-y13.result p ∷
    slice_index c.xor-y9.result p ∷ slice_index c.xor-y8.result p ∷
    slice_index c.xor-t0.result p ∷ slice_index c.xor-y1.result p ∷
    slice_index c.xor-y4.result p ∷ slice_index c.xor-y12.result p ∷
    slice_index c.xor-y2.result p ∷ slice_index c.xor-y5.result p ∷
    slice_index c.xor-y3.result p ∷ slice_index c.xor-t1.result p ∷
    slice_index c.xor-y15.result p ∷ slice_index c.xor-y20.result p ∷
    slice_index c.xor-y6.result p ∷ slice_index c.xor-y10.result p ∷
    slice_index c.xor-y11.result p ∷ slice_index c.xor-y7.result p ∷
    slice_index c.xor-y17.result p ∷ slice_index c.xor-y19.result p ∷
    slice_index c.xor-y16.result p ∷ slice_index c.xor-y21.result p ∷
    slice_index c.xor-y18.result p ∷ slice_index c.and-t2.result p ∷
    slice_index c.and-t3.result p ∷ slice_index c.xor-t4.result p ∷
    slice_index c.and-t5.result p ∷ slice_index c.xor-t6.result p ∷
    slice_index c.and-t7.result p ∷ slice_index c.and-t8.result p ∷
    slice_index c.xor-t9.result p ∷ slice_index c.and-t10.result p ∷
    slice_index c.xor-t11.result p ∷ slice_index c.and-t12.result p ∷
    slice_index c.and-t13.result p ∷ slice_index c.xor-t14.result p ∷
    slice_index c.and-t15.result p ∷ slice_index c.xor-t16.result p ∷
    slice_index c.xor-t17.result p ∷ slice_index c.xor-t18.result p ∷
    slice_index c.xor-t19.result p ∷ slice_index c.xor-t20.result p ∷
    slice_index c.xor-t21.result p ∷ slice_index c.xor-t22.result p ∷
    slice_index c.xor-t23.result p ∷ slice_index c.xor-t24.result p ∷
    slice_index c.xor-t25.result p ∷ slice_index c.and-t26.result p ∷
    slice_index c.xor-t27.result p ∷ slice_index c.and-t28.result p ∷
    slice_index c.xor-t29.result p ∷ slice_index c.xor-t30.result p ∷
    slice_index c.xor-t31.result p ∷ slice_index c.and-t32.result p ∷
    slice_index c.xor-t33.result p ∷ slice_index c.xor-t34.result p ∷
    slice_index c.xor-t35.result p ∷ slice_index c.and-t36.result p ∷
    slice_index c.xor-t37.result p ∷ slice_index c.xor-t38.result p ∷
    slice_index c.and-t39.result p ∷ slice_index c.xor-t40.result p ∷
    slice_index c.xor-t41.result p ∷ slice_index c.xor-t42.result p ∷
    slice_index c.xor-t43.result p ∷ slice_index c.xor-t44.result p ∷
    slice_index c.xor-t45.result p ∷ slice_index c.and-z0.result p ∷
    slice_index c.and-z1.result p ∷ slice_index c.and-z2.result p ∷
    slice_index c.and-z3.result p ∷ slice_index c.and-z4.result p ∷
    slice_index c.and-z5.result p ∷ slice_index c.and-z6.result p ∷
    slice_index c.and-z7.result p ∷ slice_index c.and-z8.result p ∷
    slice_index c.and-z9.result p ∷ slice_index c.and-z10.result p ∷
    slice_index c.and-z11.result p ∷ slice_index c.and-z12.result p ∷
    slice_index c.and-z13.result p ∷ slice_index c.and-z14.result p ∷
    slice_index c.and-z15.result p ∷ slice_index c.and-z16.result p ∷
    slice_index c.and-z17.result p ∷ slice_index c.xor-t46.result p ∷
    slice_index c.xor-t47.result p ∷ slice_index c.xor-t48.result p ∷
    slice_index c.xor-t49.result p ∷ slice_index c.xor-t50.result p ∷
    slice_index c.xor-t51.result p ∷ slice_index c.xor-t52.result p ∷
    slice_index c.xor-t53.result p ∷ slice_index c.xor-t54.result p ∷
    slice_index c.xor-t55.result p ∷ slice_index c.xor-t56.result p ∷
    slice_index c.xor-t57.result p ∷ slice_index c.xor-t58.result p ∷
    slice_index c.xor-t59.result p ∷ slice_index c.xor-t60.result p ∷
    slice_index c.xor-t61.result p ∷ slice_index c.xor-t62.result p ∷
    slice_index c.xor-t63.result p ∷ slice_index c.xor-t64.result p ∷
    slice_index c.xor-t65.result p ∷ slice_index c.xor-t66.result p ∷
    slice_index c.xor-s0.result p ∷ slice_index c.xor-s6.result p ∷
    slice_index c.xor-s7.result p ∷ slice_index c.xor-t67.result p ∷
    slice_index c.xor-s3.result p ∷ slice_index c.xor-s4.result p ∷
    slice_index c.xor-s5.result p ∷ slice_index c.xor-s1.result p ∷
    slice_index c.xor-s2.result p ∷ [] in
    let follows : Follows s_box_gates (lanes_at c.args.s p) ns = (
      c.xor-y14.ensures p below,
      (
        c.xor-y13.ensures p below,
        (
          c.xor-y9.ensures p below,
          (
            c.xor-y8.ensures p below,
            (
              c.xor-t0.ensures p below,
              (
                c.xor-y1.ensures p below,
                (
                  c.xor-y4.ensures p below,
                  (
                    c.xor-y12.ensures p below,
                    (
                      c.xor-y2.ensures p below,
                      (
                        c.xor-y5.ensures p below,
                        (
                          c.xor-y3.ensures p below,
                          (
                            c.xor-t1.ensures p below,
                            (
                              c.xor-y15.ensures p below,
                              (
                                c.xor-y20.ensures p below,
                                (
                                  c.xor-y6.ensures p below,
                                  (
                                    c.xor-y10.ensures p below,
                                    (
                                      c.xor-y11.ensures p below,
                                      (
                                        c.xor-y7.ensures p below,
                                        (
                                          c.xor-y17.ensures p below,
                                          (
                                            c.xor-y19.ensures p below,
                                            (
                                              c.xor-y16.ensures p below,
                                              (
                                                c.xor-y21.ensures p below,
                                                (
                                                  c.xor-y18.ensures p below,
                                                  (
                                                    c.and-t2.ensures p below,
                                                    (
                                                      c.and-t3.ensures p below,
                                                      (
                                                        c.xor-t4.ensures p below,
                                                        (
                                                          c.and-t5.ensures p below,
                                                          (
                                                            c.xor-t6.ensures p below,
                                                            (
                                                              c.and-t7.ensures p below,
                                                              (
                                                                c.and-t8.ensures p below,
                                                                (
                                                                  c.xor-t9.ensures p below,
                                                                  (
                                                                    c.and-t10.ensures p below,
                                                                    (
                                                                      c.xor-t11.ensures p below,
                                                                      (
                                                                        c.and-t12.ensures p below,
                                                                        (
                                                                          c.and-t13.ensures p below,
                                                                          (
                                                                            c.xor-t14.ensures p below,
                                                                            (
                                                                              c.and-t15.ensures p below,
                                                                              (
                                                                                c.xor-t16.ensures p below,
                                                                                (
                                                                                  c.xor-t17.ensures p below,
                                                                                  (
                                                                                    c.xor-t18.ensures p below,
                                                                                    (
                                                                                      c.xor-t19.ensures p below,
                                                                                      (
                                                                                        c.xor-t20.ensures p below,
                                                                                        (
                                                                                          c.xor-t21.ensures p below,
                                                                                          (
                                                                                            c.xor-t22.ensures p below,
                                                                                            (
                                                                                              c.xor-t23.ensures p below,
                                                                                              (
                                                                                                c.xor-t24.ensures p below,
                                                                                                (
                                                                                                  c.xor-t25.ensures p below,
                                                                                                  (
                                                                                                    c.and-t26.ensures p below,
                                                                                                    (
                                                                                                      c.xor-t27.ensures p below,
                                                                                                      (
                                                                                                        c.and-t28.ensures p below,
                                                                                                        (
                                                                                                          c.xor-t29.ensures p below,
                                                                                                          (
                                                                                                            c.xor-t30.ensures p below,
                                                                                                            (
                                                                                                              c.xor-t31.ensures p below,
                                                                                                              (
                                                                                                                c.and-t32.ensures p below,
                                                                                                                (
                                                                                                                  c.xor-t33.ensures p below,
                                                                                                                  (
                                                                                                                    c.xor-t34.ensures p below,
                                                                                                                    (
                                                                                                                      c.xor-t35.ensures p below,
                                                                                                                      (
                                                                                                                        c.and-t36.ensures p below,
                                                                                                                        (
                                                                                                                          c.xor-t37.ensures p below,
                                                                                                                          (
                                                                                                                            c.xor-t38.ensures p below,
                                                                                                                            (
                                                                                                                              c.and-t39.ensures p below,
                                                                                                                              (
                                                                                                                                c.xor-t40.ensures p below,
                                                                                                                                (
                                                                                                                                  c.xor-t41.ensures p below,
                                                                                                                                  (
                                                                                                                                    c.xor-t42.ensures p below,
                                                                                                                                    (
                                                                                                                                      c.xor-t43.ensures p below,
                                                                                                                                      (
                                                                                                                                        c.xor-t44.ensures p below,
                                                                                                                                        (
                                                                                                                                          c.xor-t45.ensures p below,
                                                                                                                                          (
                                                                                                                                            c.and-z0.ensures p below,
                                                                                                                                            (
                                                                                                                                              c.and-z1.ensures p below,
                                                                                                                                              (
                                                                                                                                                c.and-z2.ensures p below,
                                                                                                                                                (
                                                                                                                                                  c.and-z3.ensures p below,
                                                                                                                                                  (
                                                                                                                                                    c.and-z4.ensures p below,
                                                                                                                                                    (
                                                                                                                                                      c.and-z5.ensures p below,
                                                                                                                                                      (
                                                                                                                                                        c.and-z6.ensures p below,
                                                                                                                                                        (
                                                                                                                                                          c.and-z7.ensures p below,
                                                                                                                                                          (
                                                                                                                                                            c.and-z8.ensures p below,
                                                                                                                                                            (
                                                                                                                                                              c.and-z9.ensures p below,
                                                                                                                                                              (
                                                                                                                                                                c.and-z10.ensures p below,
                                                                                                                                                                (
                                                                                                                                                                  c.and-z11.ensures p below,
                                                                                                                                                                  (
                                                                                                                                                                    c.and-z12.ensures p below,
                                                                                                                                                                    (
                                                                                                                                                                      c.and-z13.ensures p below,
                                                                                                                                                                      (
                                                                                                                                                                        c.and-z14.ensures p below,
                                                                                                                                                                        (
                                                                                                                                                                          c.and-z15.ensures p below,
                                                                                                                                                                          (
                                                                                                                                                                            c.and-z16.ensures p below,
                                                                                                                                                                            (
                                                                                                                                                                              c.and-z17.ensures p below,
                                                                                                                                                                              (
                                                                                                                                                                                c.xor-t46.ensures p below,
                                                                                                                                                                                (
                                                                                                                                                                                  c.xor-t47.ensures p below,
                                                                                                                                                                                  (
                                                                                                                                                                                    c.xor-t48.ensures p below,
                                                                                                                                                                                    (
                                                                                                                                                                                      c.xor-t49.ensures p below,
                                                                                                                                                                                      (
                                                                                                                                                                                        c.xor-t50.ensures p below,
                                                                                                                                                                                        (
                                                                                                                                                                                          c.xor-t51.ensures p below,
                                                                                                                                                                                          (
                                                                                                                                                                                            c.xor-t52.ensures p below,
                                                                                                                                                                                            (
                                                                                                                                                                                              c.xor-t53.ensures p below,
                                                                                                                                                                                              (
                                                                                                                                                                                                c.xor-t54.ensures p below,
                                                                                                                                                                                                (
                                                                                                                                                                                                  c.xor-t55.ensures p below,
                                                                                                                                                                                                  (
                                                                                                                                                                                                    c.xor-t56.ensures p below,
                                                                                                                                                                                                    (
                                                                                                                                                                                                      c.xor-t57.ensures p below,
                                                                                                                                                                                                      (
                                                                                                                                                                                                        c.xor-t58.ensures p below,
                                                                                                                                                                                                        (
                                                                                                                                                                                                          c.xor-t59.ensures p below,
                                                                                                                                                                                                          (
                                                                                                                                                                                                            c.xor-t60.ensures p below,
                                                                                                                                                                                                            (
                                                                                                                                                                                                              c.xor-t61.ensures p below,
                                                                                                                                                                                                              (
                                                                                                                                                                                                                c.xor-t62.ensures p below,
                                                                                                                                                                                                                (
                                                                                                                                                                                                                  c.xor-t63.ensures p below,
                                                                                                                                                                                                                  (
                                                                                                                                                                                                                    c.xor-t64.ensures p below,
                                                                                                                                                                                                                    (
                                                                                                                                                                                                                      c.xor-t65.ensures p below,
                                                                                                                                                                                                                      (
                                                                                                                                                                                                                        c.xor-t66.ensures p below,
                                                                                                                                                                                                                        (
                                                                                                                                                                                                                          c.xor-s0.ensures p below,
                                                                                                                                                                                                                          (
                                                                                                                                                                                                                            c.xor-s6.ensures p below,
                                                                                                                                                                                                                            (
                                                                                                                                                                                                                              c.xor-s7.ensures p below,
                                                                                                                                                                                                                              (
                                                                                                                                                                                                                                c.xor-t67.ensures p below,
                                                                                                                                                                                                                                (
                                                                                                                                                                                                                                  c.xor-s3.ensures p below,
                                                                                                                                                                                                                                  (
                                                                                                                                                                                                                                    c.xor-s4.ensures p below,
                                                                                                                                                                                                                                    (c.xor-s5.ensures p below, (c.xor-s1.ensures p below, (c.xor-s2.ensures p below, tt))),
                                                                                                                                                                                                                                  ),
                                                                                                                                                                                                                                ),
                                                                                                                                                                                                                              ),
                                                                                                                                                                                                                            ),
                                                                                                                                                                                                                          ),
                                                                                                                                                                                                                        ),
                                                                                                                                                                                                                      ),
                                                                                                                                                                                                                    ),
                                                                                                                                                                                                                  ),
                                                                                                                                                                                                                ),
                                                                                                                                                                                                              ),
                                                                                                                                                                                                            ),
                                                                                                                                                                                                          ),
                                                                                                                                                                                                        ),
                                                                                                                                                                                                      ),
                                                                                                                                                                                                    ),
                                                                                                                                                                                                  ),
                                                                                                                                                                                                ),
                                                                                                                                                                                              ),
                                                                                                                                                                                            ),
                                                                                                                                                                                          ),
                                                                                                                                                                                        ),
                                                                                                                                                                                      ),
                                                                                                                                                                                    ),
                                                                                                                                                                                  ),
                                                                                                                                                                                ),
                                                                                                                                                                              ),
                                                                                                                                                                            ),
                                                                                                                                                                          ),
                                                                                                                                                                        ),
                                                                                                                                                                      ),
                                                                                                                                                                    ),
                                                                                                                                                                  ),
                                                                                                                                                                ),
                                                                                                                                                              ),
                                                                                                                                                            ),
                                                                                                                                                          ),
                                                                                                                                                        ),
                                                                                                                                                      ),
                                                                                                                                                    ),
                                                                                                                                                  ),
                                                                                                                                                ),
                                                                                                                                              ),
                                                                                                                                            ),
                                                                                                                                          ),
                                                                                                                                        ),
                                                                                                                                      ),
                                                                                                                                    ),
                                                                                                                                  ),
                                                                                                                                ),
                                                                                                                              ),
                                                                                                                            ),
                                                                                                                          ),
                                                                                                                        ),
                                                                                                                      ),
                                                                                                                    ),
                                                                                                                  ),
                                                                                                                ),
                                                                                                              ),
                                                                                                            ),
                                                                                                          ),
                                                                                                        ),
                                                                                                      ),
                                                                                                    ),
                                                                                                  ),
                                                                                                ),
                                                                                              ),
                                                                                            ),
                                                                                          ),
                                                                                        ),
                                                                                      ),
                                                                                    ),
                                                                                  ),
                                                                                ),
                                                                              ),
                                                                            ),
                                                                          ),
                                                                        ),
                                                                      ),
                                                                    ),
                                                                  ),
                                                                ),
                                                              ),
                                                            ),
                                                          ),
                                                        ),
                                                      ),
                                                    ),
                                                  ),
                                                ),
                                              ),
                                            ),
                                          ),
                                        ),
                                      ),
                                    ),
                                  ),
                                ),
                              ),
                            ),
                          ),
                        ),
                      ),
                    ),
                  ),
                ),
              ),
            ),
          ),
        ),
      ),
    ) in
    substituted (lanes_at c.args.s p) ns refl follows k
