-- The thirteen queries of the Star Schema Benchmark: their names, and their texts in this project's
-- dialect.
use Rattle.std.specs.Prelude.{◌++◌, ℕ, List, codes}
use Rattle.star_engine.specs.declared.thirteen.BenchmarkQuery.{BenchmarkQuery, TheVariants.{Q11, Q12, Q13, Q21, Q22, Q23, Q31, Q32, Q33, Q34, Q41, Q42, Q43}}

unfoldable pub query_name : BenchmarkQuery → List ℕ
query_name Q11 = codes "Q1.1"
query_name Q12 = codes "Q1.2"
query_name Q13 = codes "Q1.3"
query_name Q21 = codes "Q2.1"
query_name Q22 = codes "Q2.2"
query_name Q23 = codes "Q2.3"
query_name Q31 = codes "Q3.1"
query_name Q32 = codes "Q3.2"
query_name Q33 = codes "Q3.3"
query_name Q34 = codes "Q3.4"
query_name Q41 = codes "Q4.1"
query_name Q42 = codes "Q4.2"
query_name Q43 = codes "Q4.3"

unfoldable pub query_text : BenchmarkQuery → List ℕ
query_text Q11 =
    codes "select sum(lo_extendedprice*lo_discount) as revenue from lineorder, date "
    ++ codes "where lo_orderdate = d_datekey and d_year = 1993 and lo_discount between 1 "
    ++ codes "and 3 and lo_quantity < 25;"
query_text Q12 =
    codes "select sum(lo_extendedprice*lo_discount) as revenue from lineorder, date "
    ++ codes "where lo_orderdate = d_datekey and d_yearmonthnum = 199401 and lo_discount "
    ++ codes "between 4 and 6 and lo_quantity between 26 and 35;"
query_text Q13 =
    codes "select sum(lo_extendedprice*lo_discount) as revenue from lineorder, date "
    ++ codes "where lo_orderdate = d_datekey and d_weeknuminyear = 6 and d_year = 1994 "
    ++ codes "and lo_discount between 5 and 7 and lo_quantity between 26 and 35;"
query_text Q21 =
    codes "select sum(lo_revenue), d_year, p_brand1 from lineorder, date, part, "
    ++ codes "supplier where lo_orderdate = d_datekey and lo_partkey = p_partkey and "
    ++ codes "lo_suppkey = s_suppkey and p_category = 'MFGR#12' and s_region = 'AMERICA' "
    ++ codes "group by d_year, p_brand1 order by d_year, p_brand1;"
query_text Q22 =
    codes "select sum(lo_revenue), d_year, p_brand1 from lineorder, date, part, "
    ++ codes "supplier where lo_orderdate = d_datekey and lo_partkey = p_partkey and "
    ++ codes "lo_suppkey = s_suppkey and p_brand1 between 'MFGR#2221' and 'MFGR#2228' and "
    ++ codes "s_region = 'ASIA' group by d_year, p_brand1 order by d_year, p_brand1;"
query_text Q23 =
    codes "select sum(lo_revenue), d_year, p_brand1 from lineorder, date, part, "
    ++ codes "supplier where lo_orderdate = d_datekey and lo_partkey = p_partkey and "
    ++ codes "lo_suppkey = s_suppkey and p_brand1 = 'MFGR#2221' and s_region = 'EUROPE' "
    ++ codes "group by d_year, p_brand1 order by d_year, p_brand1;"
query_text Q31 =
    codes "select c_nation, s_nation, d_year, sum(lo_revenue) as revenue from "
    ++ codes "customer, lineorder, supplier, date where lo_custkey = c_custkey and "
    ++ codes "lo_suppkey = s_suppkey and lo_orderdate = d_datekey and c_region = 'ASIA' "
    ++ codes "and s_region = 'ASIA' and d_year >= 1992 and d_year <= 1997 group by "
    ++ codes "c_nation, s_nation, d_year order by d_year asc, revenue desc;"
query_text Q32 =
    codes "select c_city, s_city, d_year, sum(lo_revenue) as revenue from customer, "
    ++ codes "lineorder, supplier, date where lo_custkey = c_custkey and lo_suppkey = "
    ++ codes "s_suppkey and lo_orderdate = d_datekey and c_nation = 'UNITED STATES' and "
    ++ codes "s_nation = 'UNITED STATES' and d_year >= 1992 and d_year <= 1997 group by "
    ++ codes "c_city, s_city, d_year order by d_year asc, revenue desc;"
query_text Q33 =
    codes "select c_city, s_city, d_year, sum(lo_revenue) as revenue from customer, "
    ++ codes "lineorder, supplier, date where lo_custkey = c_custkey and lo_suppkey = "
    ++ codes "s_suppkey and lo_orderdate = d_datekey and (c_city = 'UNITED KI1' or c_city "
    ++ codes "= 'UNITED KI5') and (s_city = 'UNITED KI1' or s_city = 'UNITED KI5') and "
    ++ codes "d_year >= 1992 and d_year <= 1997 group by c_city, s_city, d_year order by "
    ++ codes "d_year asc, revenue desc;"
query_text Q34 =
    codes "select c_city, s_city, d_year, sum(lo_revenue) as revenue from customer, "
    ++ codes "lineorder, supplier, date where lo_custkey = c_custkey and lo_suppkey = "
    ++ codes "s_suppkey and lo_orderdate = d_datekey and (c_city = 'UNITED KI1' or c_city "
    ++ codes "= 'UNITED KI5') and (s_city = 'UNITED KI1' or s_city = 'UNITED KI5') and "
    ++ codes "d_yearmonth = 'Dec1997' group by c_city, s_city, d_year order by d_year "
    ++ codes "asc, revenue desc;"
query_text Q41 =
    codes "select d_year, c_nation, sum(lo_revenue - lo_supplycost) as profit from "
    ++ codes "date, customer, supplier, part, lineorder where lo_custkey = c_custkey and "
    ++ codes "lo_suppkey = s_suppkey and lo_partkey = p_partkey and lo_orderdate = "
    ++ codes "d_datekey and c_region = 'AMERICA' and s_region = 'AMERICA' and (p_mfgr = "
    ++ codes "'MFGR#1' or p_mfgr = 'MFGR#2') group by d_year, c_nation order by d_year, "
    ++ codes "c_nation;"
query_text Q42 =
    codes "select d_year, s_nation, p_category, sum(lo_revenue - lo_supplycost) as "
    ++ codes "profit from date, customer, supplier, part, lineorder where lo_custkey = "
    ++ codes "c_custkey and lo_suppkey = s_suppkey and lo_partkey = p_partkey and "
    ++ codes "lo_orderdate = d_datekey and c_region = 'AMERICA' and s_region = 'AMERICA' "
    ++ codes "and (d_year = 1997 or d_year = 1998) and (p_mfgr = 'MFGR#1' or p_mfgr = "
    ++ codes "'MFGR#2') group by d_year, s_nation, p_category order by d_year, s_nation, "
    ++ codes "p_category;"
query_text Q43 =
    codes "select d_year, s_city, p_brand1, sum(lo_revenue - lo_supplycost) as profit "
    ++ codes "from date, customer, supplier, part, lineorder where lo_custkey = c_custkey "
    ++ codes "and lo_suppkey = s_suppkey and lo_partkey = p_partkey and lo_orderdate = "
    ++ codes "d_datekey and c_region = 'AMERICA' and s_nation = 'UNITED STATES' and "
    ++ codes "(d_year = 1997 or d_year = 1998) and p_category = 'MFGR#14' group by "
    ++ codes "d_year, s_city, p_brand1 order by d_year, s_city, p_brand1;"
