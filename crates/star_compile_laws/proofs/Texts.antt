-- The texts of the programs of the benchmark's queries and of two others, by computation.
use Rattle.std.{proofs.Common.{ℕ, List, [], ◌∷◌, codes, map, refl}, specs.Fmt.digits, specs.List.flat_map, specs.Prelude.{nat_eq, if◌then◌else◌}}
use Rattle.star_common.{proofs.Tables.Gives, specs.Quotes.quoted}
use Rattle.star_schema.specs.{Schema.column_of, Schema.table_name, Words.shape_name, Words.aggregate_name, Words.direction_name}
use Rattle.star_program.specs.Text.{Keywords.mnemonic_name, Statements.lines_of_code, Written.{program_text, written_line, op_text, assigned_text, register_text, target_text, group_text, key_text, written_column, show_text, sort_text}}
use Rattle.star_compile_laws.{specs.Compiled.compiled, proofs.Plans.{q11, q12, q13, q21, q22, q23, q31, q32, q33, q34, q41, q42, q43, profits, others}}

-- a semicolon ends a line
abbrev lines : List (List ℕ) → List ℕ
lines parts = map (λ b. if nat_eq b 59 then 10 else b) (flat_map (λ part. part) parts)

texts : Gives (λ p. program_text (compiled p)) ((
  q11,
  lines (
      codes "star program 1;registers 15;group 0 plain : sum;scan lineorder r0;"
      ∷ codes "  r1 = load lo_orderdate r0;  r2 = find date r1;  r3 = load d_year r2;"
      ∷ codes "  r4 = const 1993;  r5 = eq r3 r4;  keep r5;  r6 = load lo_discount r0;"
      ∷ codes "  r7 = const 1;  r8 = const 4;  r9 = within r6 r7 r8;  keep r9;"
      ∷ codes "  r10 = load lo_quantity r0;  r11 = const 25;  r12 = lt r10 r11;  keep r12;"
      ∷ codes "  r13 = load lo_extendedprice r0;  r14 = mul r13 r6;  put 0 : r14;end;"
      ∷ codes "report 0;show revenue aggregate 0;" ∷ []
      ),
)
    ∷ (
      q12,
      lines (
          codes "star program 1;registers 16;group 0 plain : sum;scan lineorder r0;"
          ∷ codes "  r1 = load lo_orderdate r0;  r2 = find date r1;  r3 = load d_yearmonthnum r2;"
          ∷ codes "  r4 = const 199401;  r5 = eq r3 r4;  keep r5;  r6 = load lo_discount r0;"
          ∷ codes "  r7 = const 4;  r8 = const 7;  r9 = within r6 r7 r8;  keep r9;"
          ∷ codes "  r10 = load lo_quantity r0;  r11 = const 26;  r12 = const 36;"
          ∷ codes "  r13 = within r10 r11 r12;  keep r13;  r14 = load lo_extendedprice r0;"
          ∷ codes "  r15 = mul r14 r6;  put 0 : r15;end;report 0;show revenue aggregate 0;" ∷ []
          ),
    )
    ∷ (
      q13,
      lines (
          codes "star program 1;registers 19;group 0 plain : sum;scan lineorder r0;"
          ∷ codes "  r1 = load lo_orderdate r0;  r2 = find date r1;"
          ∷ codes "  r3 = load d_weeknuminyear r2;  r4 = const 6;  r5 = eq r3 r4;  keep r5;"
          ∷ codes "  r6 = load d_year r2;  r7 = const 1994;  r8 = eq r6 r7;  keep r8;"
          ∷ codes "  r9 = load lo_discount r0;  r10 = const 5;  r11 = const 8;"
          ∷ codes "  r12 = within r9 r10 r11;  keep r12;  r13 = load lo_quantity r0;"
          ∷ codes "  r14 = const 26;  r15 = const 36;  r16 = within r13 r14 r15;  keep r16;"
          ∷ codes "  r17 = load lo_extendedprice r0;  r18 = mul r17 r9;  put 0 : r18;end;"
          ∷ codes "report 0;show revenue aggregate 0;" ∷ []
          ),
    )
    ∷ (
      q21,
      lines (
          codes "star program 1;registers 18;group 0 plain number p_brand1 : sum;"
          ∷ codes "scan lineorder r0;  r1 = load lo_partkey r0;  r2 = find part r1;"
          ∷ codes "  r3 = load p_category r2;  r4 = low p_category 'MFGR#12';"
          ∷ codes "  r5 = high p_category 'MFGR#12';  r6 = within r3 r4 r5;  keep r6;"
          ∷ codes "  r7 = load lo_suppkey r0;  r8 = find supplier r7;  r9 = load s_region r8;"
          ∷ codes "  r10 = low s_region 'AMERICA';  r11 = high s_region 'AMERICA';"
          ∷ codes "  r12 = within r9 r10 r11;  keep r12;  r13 = load lo_orderdate r0;"
          ∷ codes "  r14 = find date r13;  r15 = load d_year r14;  r16 = load p_brand1 r2;"
          ∷ codes "  r17 = load lo_revenue r0;  put 0 r15 r16 : r17;end;report 0;"
          ∷ codes "show sum1 aggregate 0;show d_year key 0;show p_brand1 key 1;"
          ∷ codes "sort key 0 ascending;sort key 1 ascending;" ∷ []
          ),
    )
    ∷ (
      q22,
      lines (
          codes "star program 1;registers 17;group 0 plain number p_brand1 : sum;"
          ∷ codes "scan lineorder r0;  r1 = load lo_partkey r0;  r2 = find part r1;"
          ∷ codes "  r3 = load p_brand1 r2;  r4 = low p_brand1 'MFGR#2221';"
          ∷ codes "  r5 = high p_brand1 'MFGR#2228';  r6 = within r3 r4 r5;  keep r6;"
          ∷ codes "  r7 = load lo_suppkey r0;  r8 = find supplier r7;  r9 = load s_region r8;"
          ∷ codes "  r10 = low s_region 'ASIA';  r11 = high s_region 'ASIA';"
          ∷ codes "  r12 = within r9 r10 r11;  keep r12;  r13 = load lo_orderdate r0;"
          ∷ codes "  r14 = find date r13;  r15 = load d_year r14;  r16 = load lo_revenue r0;"
          ∷ codes "  put 0 r15 r3 : r16;end;report 0;show sum1 aggregate 0;show d_year key 0;"
          ∷ codes "show p_brand1 key 1;sort key 0 ascending;sort key 1 ascending;" ∷ []
          ),
    )
    ∷ (
      q23,
      lines (
          codes "star program 1;registers 17;group 0 plain number p_brand1 : sum;"
          ∷ codes "scan lineorder r0;  r1 = load lo_partkey r0;  r2 = find part r1;"
          ∷ codes "  r3 = load p_brand1 r2;  r4 = low p_brand1 'MFGR#2221';"
          ∷ codes "  r5 = high p_brand1 'MFGR#2221';  r6 = within r3 r4 r5;  keep r6;"
          ∷ codes "  r7 = load lo_suppkey r0;  r8 = find supplier r7;  r9 = load s_region r8;"
          ∷ codes "  r10 = low s_region 'EUROPE';  r11 = high s_region 'EUROPE';"
          ∷ codes "  r12 = within r9 r10 r11;  keep r12;  r13 = load lo_orderdate r0;"
          ∷ codes "  r14 = find date r13;  r15 = load d_year r14;  r16 = load lo_revenue r0;"
          ∷ codes "  put 0 r15 r3 : r16;end;report 0;show sum1 aggregate 0;show d_year key 0;"
          ∷ codes "show p_brand1 key 1;sort key 0 ascending;sort key 1 ascending;" ∷ []
          ),
    )
    ∷ (
      q31,
      lines (
          codes "star program 1;registers 23;group 0 plain c_nation s_nation number : sum;"
          ∷ codes "scan lineorder r0;  r1 = load lo_custkey r0;  r2 = find customer r1;"
          ∷ codes "  r3 = load c_region r2;  r4 = low c_region 'ASIA';"
          ∷ codes "  r5 = high c_region 'ASIA';  r6 = within r3 r4 r5;  keep r6;"
          ∷ codes "  r7 = load lo_suppkey r0;  r8 = find supplier r7;  r9 = load s_region r8;"
          ∷ codes "  r10 = low s_region 'ASIA';  r11 = high s_region 'ASIA';"
          ∷ codes "  r12 = within r9 r10 r11;  keep r12;  r13 = load lo_orderdate r0;"
          ∷ codes "  r14 = find date r13;  r15 = load d_year r14;  r16 = const 1992;"
          ∷ codes "  r17 = le r16 r15;  keep r17;  r18 = const 1997;  r19 = le r15 r18;"
          ∷ codes "  keep r19;  r20 = load c_nation r2;  r21 = load s_nation r8;"
          ∷ codes "  r22 = load lo_revenue r0;  put 0 r20 r21 r15 : r22;end;report 0;"
          ∷ codes "show c_nation key 0;show s_nation key 1;show d_year key 2;"
          ∷ codes "show revenue aggregate 0;sort key 2 ascending;sort aggregate 0 descending;" ∷ []
          ),
    )
    ∷ (
      q32,
      lines (
          codes "star program 1;registers 23;group 0 plain c_city s_city number : sum;"
          ∷ codes "scan lineorder r0;  r1 = load lo_custkey r0;  r2 = find customer r1;"
          ∷ codes "  r3 = load c_nation r2;  r4 = low c_nation 'UNITED STATES';"
          ∷ codes "  r5 = high c_nation 'UNITED STATES';  r6 = within r3 r4 r5;  keep r6;"
          ∷ codes "  r7 = load lo_suppkey r0;  r8 = find supplier r7;  r9 = load s_nation r8;"
          ∷ codes "  r10 = low s_nation 'UNITED STATES';  r11 = high s_nation 'UNITED STATES';"
          ∷ codes "  r12 = within r9 r10 r11;  keep r12;  r13 = load lo_orderdate r0;"
          ∷ codes "  r14 = find date r13;  r15 = load d_year r14;  r16 = const 1992;"
          ∷ codes "  r17 = le r16 r15;  keep r17;  r18 = const 1997;  r19 = le r15 r18;"
          ∷ codes "  keep r19;  r20 = load c_city r2;  r21 = load s_city r8;"
          ∷ codes "  r22 = load lo_revenue r0;  put 0 r20 r21 r15 : r22;end;report 0;"
          ∷ codes "show c_city key 0;show s_city key 1;show d_year key 2;"
          ∷ codes "show revenue aggregate 0;sort key 2 ascending;sort aggregate 0 descending;" ∷ []
          ),
    )
    ∷ (
      q33,
      lines (
          codes "star program 1;registers 29;group 0 plain c_city s_city number : sum;"
          ∷ codes "scan lineorder r0;  r1 = load lo_custkey r0;  r2 = find customer r1;"
          ∷ codes "  r3 = load c_city r2;  r4 = low c_city 'UNITED KI1';"
          ∷ codes "  r5 = high c_city 'UNITED KI1';  r6 = within r3 r4 r5;"
          ∷ codes "  r7 = low c_city 'UNITED KI5';  r8 = high c_city 'UNITED KI5';"
          ∷ codes "  r9 = within r3 r7 r8;  r10 = or r6 r9;  keep r10;  r11 = load lo_suppkey r0;"
          ∷ codes "  r12 = find supplier r11;  r13 = load s_city r12;"
          ∷ codes "  r14 = low s_city 'UNITED KI1';  r15 = high s_city 'UNITED KI1';"
          ∷ codes "  r16 = within r13 r14 r15;  r17 = low s_city 'UNITED KI5';"
          ∷ codes "  r18 = high s_city 'UNITED KI5';  r19 = within r13 r17 r18;"
          ∷ codes "  r20 = or r16 r19;  keep r20;  r21 = load lo_orderdate r0;"
          ∷ codes "  r22 = find date r21;  r23 = load d_year r22;  r24 = const 1992;"
          ∷ codes "  r25 = le r24 r23;  keep r25;  r26 = const 1997;  r27 = le r23 r26;"
          ∷ codes "  keep r27;  r28 = load lo_revenue r0;  put 0 r3 r13 r23 : r28;end;report 0;"
          ∷ codes "show c_city key 0;show s_city key 1;show d_year key 2;"
          ∷ codes "show revenue aggregate 0;sort key 2 ascending;sort aggregate 0 descending;" ∷ []
          ),
    )
    ∷ (
      q34,
      lines (
          codes "star program 1;registers 29;group 0 plain c_city s_city number : sum;"
          ∷ codes "scan lineorder r0;  r1 = load lo_custkey r0;  r2 = find customer r1;"
          ∷ codes "  r3 = load c_city r2;  r4 = low c_city 'UNITED KI1';"
          ∷ codes "  r5 = high c_city 'UNITED KI1';  r6 = within r3 r4 r5;"
          ∷ codes "  r7 = low c_city 'UNITED KI5';  r8 = high c_city 'UNITED KI5';"
          ∷ codes "  r9 = within r3 r7 r8;  r10 = or r6 r9;  keep r10;  r11 = load lo_suppkey r0;"
          ∷ codes "  r12 = find supplier r11;  r13 = load s_city r12;"
          ∷ codes "  r14 = low s_city 'UNITED KI1';  r15 = high s_city 'UNITED KI1';"
          ∷ codes "  r16 = within r13 r14 r15;  r17 = low s_city 'UNITED KI5';"
          ∷ codes "  r18 = high s_city 'UNITED KI5';  r19 = within r13 r17 r18;"
          ∷ codes "  r20 = or r16 r19;  keep r20;  r21 = load lo_orderdate r0;"
          ∷ codes "  r22 = find date r21;  r23 = load d_yearmonth r22;"
          ∷ codes "  r24 = low d_yearmonth 'Dec1997';  r25 = high d_yearmonth 'Dec1997';"
          ∷ codes "  r26 = within r23 r24 r25;  keep r26;  r27 = load d_year r22;"
          ∷ codes "  r28 = load lo_revenue r0;  put 0 r3 r13 r27 : r28;end;report 0;"
          ∷ codes "show c_city key 0;show s_city key 1;show d_year key 2;"
          ∷ codes "show revenue aggregate 0;sort key 2 ascending;sort aggregate 0 descending;" ∷ []
          ),
    )
    ∷ (
      q41,
      lines (
          codes "star program 1;registers 30;group 0 plain number c_nation : sum;"
          ∷ codes "scan lineorder r0;  r1 = load lo_custkey r0;  r2 = find customer r1;"
          ∷ codes "  r3 = load c_region r2;  r4 = low c_region 'AMERICA';"
          ∷ codes "  r5 = high c_region 'AMERICA';  r6 = within r3 r4 r5;  keep r6;"
          ∷ codes "  r7 = load lo_suppkey r0;  r8 = find supplier r7;  r9 = load s_region r8;"
          ∷ codes "  r10 = low s_region 'AMERICA';  r11 = high s_region 'AMERICA';"
          ∷ codes "  r12 = within r9 r10 r11;  keep r12;  r13 = load lo_partkey r0;"
          ∷ codes "  r14 = find part r13;  r15 = load p_mfgr r14;  r16 = low p_mfgr 'MFGR#1';"
          ∷ codes "  r17 = high p_mfgr 'MFGR#1';  r18 = within r15 r16 r17;"
          ∷ codes "  r19 = low p_mfgr 'MFGR#2';  r20 = high p_mfgr 'MFGR#2';"
          ∷ codes "  r21 = within r15 r19 r20;  r22 = or r18 r21;  keep r22;"
          ∷ codes "  r23 = load lo_orderdate r0;  r24 = find date r23;  r25 = load d_year r24;"
          ∷ codes "  r26 = load c_nation r2;  r27 = load lo_revenue r0;"
          ∷ codes "  r28 = load lo_supplycost r0;  r29 = sub r27 r28;  put 0 r25 r26 : r29;end;"
          ∷ codes "report 0;show d_year key 0;show c_nation key 1;show profit aggregate 0;"
          ∷ codes "sort key 0 ascending;sort key 1 ascending;" ∷ []
          ),
    )
    ∷ (
      q42,
      lines (
          codes "star program 1;registers 36;group 0 plain number s_nation p_category : sum;"
          ∷ codes "scan lineorder r0;  r1 = load lo_custkey r0;  r2 = find customer r1;"
          ∷ codes "  r3 = load c_region r2;  r4 = low c_region 'AMERICA';"
          ∷ codes "  r5 = high c_region 'AMERICA';  r6 = within r3 r4 r5;  keep r6;"
          ∷ codes "  r7 = load lo_suppkey r0;  r8 = find supplier r7;  r9 = load s_region r8;"
          ∷ codes "  r10 = low s_region 'AMERICA';  r11 = high s_region 'AMERICA';"
          ∷ codes "  r12 = within r9 r10 r11;  keep r12;  r13 = load lo_orderdate r0;"
          ∷ codes "  r14 = find date r13;  r15 = load d_year r14;  r16 = const 1997;"
          ∷ codes "  r17 = eq r15 r16;  r18 = const 1998;  r19 = eq r15 r18;  r20 = or r17 r19;"
          ∷ codes "  keep r20;  r21 = load lo_partkey r0;  r22 = find part r21;"
          ∷ codes "  r23 = load p_mfgr r22;  r24 = low p_mfgr 'MFGR#1';"
          ∷ codes "  r25 = high p_mfgr 'MFGR#1';  r26 = within r23 r24 r25;"
          ∷ codes "  r27 = low p_mfgr 'MFGR#2';  r28 = high p_mfgr 'MFGR#2';"
          ∷ codes "  r29 = within r23 r27 r28;  r30 = or r26 r29;  keep r30;"
          ∷ codes "  r31 = load s_nation r8;  r32 = load p_category r22;"
          ∷ codes "  r33 = load lo_revenue r0;  r34 = load lo_supplycost r0;  r35 = sub r33 r34;"
          ∷ codes "  put 0 r15 r31 r32 : r35;end;report 0;show d_year key 0;show s_nation key 1;"
          ∷ codes "show p_category key 2;show profit aggregate 0;sort key 0 ascending;"
          ∷ codes "sort key 1 ascending;sort key 2 ascending;" ∷ []
          ),
    )
    ∷ (
      q43,
      lines (
          codes "star program 1;registers 32;group 0 plain number s_city p_brand1 : sum;"
          ∷ codes "scan lineorder r0;  r1 = load lo_custkey r0;  r2 = find customer r1;"
          ∷ codes "  r3 = load c_region r2;  r4 = low c_region 'AMERICA';"
          ∷ codes "  r5 = high c_region 'AMERICA';  r6 = within r3 r4 r5;  keep r6;"
          ∷ codes "  r7 = load lo_suppkey r0;  r8 = find supplier r7;  r9 = load s_nation r8;"
          ∷ codes "  r10 = low s_nation 'UNITED STATES';  r11 = high s_nation 'UNITED STATES';"
          ∷ codes "  r12 = within r9 r10 r11;  keep r12;  r13 = load lo_orderdate r0;"
          ∷ codes "  r14 = find date r13;  r15 = load d_year r14;  r16 = const 1997;"
          ∷ codes "  r17 = eq r15 r16;  r18 = const 1998;  r19 = eq r15 r18;  r20 = or r17 r19;"
          ∷ codes "  keep r20;  r21 = load lo_partkey r0;  r22 = find part r21;"
          ∷ codes "  r23 = load p_category r22;  r24 = low p_category 'MFGR#14';"
          ∷ codes "  r25 = high p_category 'MFGR#14';  r26 = within r23 r24 r25;  keep r26;"
          ∷ codes "  r27 = load s_city r8;  r28 = load p_brand1 r22;  r29 = load lo_revenue r0;"
          ∷ codes "  r30 = load lo_supplycost r0;  r31 = sub r29 r30;  put 0 r15 r27 r28 : r31;"
          ∷ codes "end;report 0;show d_year key 0;show s_city key 1;show p_brand1 key 2;"
          ∷ codes "show profit aggregate 0;sort key 0 ascending;sort key 1 ascending;"
          ∷ codes "sort key 2 ascending;" ∷ []
          ),
    )
    ∷ (
      profits,
      lines (
          codes "star program 1;registers 24;group 0 cube number c_nation : sum count;"
          ∷ codes "scan lineorder r0;  r1 = load lo_custkey r0;  r2 = find customer r1;"
          ∷ codes "  r3 = load c_region r2;  r4 = low c_region 'ASIA';"
          ∷ codes "  r5 = high c_region 'ASIA';  r6 = within r3 r4 r5;  r7 = load lo_partkey r0;"
          ∷ codes "  r8 = find part r7;  r9 = load p_mfgr r8;  r10 = high p_mfgr 'MFGR#2';"
          ∷ codes "  r11 = lt r9 r10;  r12 = not r11;  r13 = or r6 r12;  keep r13;"
          ∷ codes "  r14 = load lo_orderdate r0;  r15 = find date r14;  r16 = load d_year r15;"
          ∷ codes "  r17 = const 1992;  r18 = const 1998;  r19 = within r16 r17 r18;  keep r19;"
          ∷ codes "  r20 = load c_nation r2;  r21 = load lo_revenue r0;"
          ∷ codes "  r22 = load lo_supplycost r0;  r23 = sub r21 r22;  put 0 r16 r20 : r23;end;"
          ∷ codes "report 0;show d_year key 0;show c_nation key 1;show profit aggregate 0;"
          ∷ codes "show lines aggregate 1;sort aggregate 0 descending;sort key 0 ascending;" ∷ []
          ),
    )
    ∷ (
      others,
      lines (
          codes "star program 1;registers 40;group 0 plain lo_shipmode : min max count;"
          ∷ codes "scan lineorder r0;  r1 = load lo_commitdate r0;  r2 = const 19940105;"
          ∷ codes "  r3 = eq r1 r2;  r4 = not r3;  keep r4;  r5 = load lo_shipmode r0;"
          ∷ codes "  r6 = low lo_shipmode 'AIR';  r7 = high lo_shipmode 'AIR';"
          ∷ codes "  r8 = within r5 r6 r7;  r9 = not r8;  r10 = load lo_tax r0;  r11 = const 1;"
          ∷ codes "  r12 = lt r11 r10;  r13 = and r9 r12;  r14 = find date r1;"
          ∷ codes "  r15 = load d_year r14;  r16 = const 1995;  r17 = lt r15 r16;"
          ∷ codes "  r18 = load d_month r14;  r19 = low d_month 'M';  r20 = le r19 r18;"
          ∷ codes "  r21 = and r17 r20;  r22 = or r13 r21;  keep r22;  r23 = const 2;"
          ∷ codes "  r24 = le r23 r10;  keep r24;  r25 = load lo_suppkey r0;"
          ∷ codes "  r26 = find supplier r25;  r27 = load s_city r26;  r28 = high s_city 'O''B';"
          ∷ codes "  r29 = le r28 r27;  keep r29;  r30 = low s_city 'U';  r31 = lt r27 r30;"
          ∷ codes "  keep r31;  r32 = low d_month 'A';  r33 = high d_month 'M';"
          ∷ codes "  r34 = within r18 r32 r33;  keep r34;  r35 = const -2;"
          ∷ codes "  r36 = load lo_discount r0;  r37 = mul r35 r36;  r38 = add r10 r37;"
          ∷ codes "  r39 = load lo_revenue r0;  put 0 r5 : r38 r39;end;report 0;"
          ∷ codes "show lo_shipmode key 0;show lowest aggregate 0;show max2 aggregate 1;"
          ∷ codes "show count3 aggregate 2;sort key 0 descending;" ∷ []
          ),
    ) ∷ [])
unfolding column_of table_name program_text written_line lines_of_code register_text target_text
    assigned_text op_text key_text group_text written_column show_text sort_text digits quoted
    shape_name aggregate_name mnemonic_name direction_name
texts = refl
